use Rattle.std.proofs.Common.{length, ap, ◌∙◌, arith}
use Rattle.name.proofs.Listed.{listed-more, listed-all}
use Rattle.name.proofs.listing.Listing.fill.Goals as goal

pub put-at-requires : goal.put-at-requires
put-at-requires c = omega (arith, c.loop-name.invariant.room, c.loop-name.auto.area, c.requires, c.as_slice-name-items.ensures.fits, c.loop-name-test.true)

pub loop-name-preserved : goal.loop-name-preserved
loop-name-preserved c =
    let same = c.as_slice-name-items.ensures.value ∙ c.self.view_is in
    listed-more c.args.self.now c.loop-name.name-index c.name-item.result c.args.area.now _ _ c.loop-name.invariant (omega (arith, c.loop-name-test.true, ap length same)) (rw same at c.name-item.is) _ _ c.put-at.ensures.end c.put-at.ensures.within c.put-at.ensures.put

pub returns : goal.returns
returns c =
    let same = c.as_slice-name-items.ensures.value ∙ c.self.view_is in
    let all = listed-all c.args.self.now c.loop-name.name-index _ _ _ (omega (arith, c.loop-name-test.false, ap length same)) c.loop-name.invariant in
    record { count = all.0; put = all.1 }
