use Rattle.std.proofs.Common.{ap, ◌∙◌, arith}
use Rattle.row.proofs.Spare.{grown_spare, grown, cut_length, cut_spare, cut_front}
use Rattle.row.proofs.Row.set_len.Goals.{then-len-was, else-len-was}
use Rattle.row.proofs.Row.set_len.Goals as goal

pub invariant_of-self : goal.invariant_of-self
invariant_of-self g c =
    let s = c.self.inside in
    let i = c.self.invariant in
    elim c.if-len-was.branch [
      | then-len-was w ↦
          let is = ap (λ r. r.bytes) w.self-inside-is ∙ w.blank.ensures in (
            c.requires,
            cut_length g.row.CAP s.len c.args.len s.bytes i.0 i.1 i.2 c.requires _ is (omega (arith, w.if-len-was.true)),
            cut_spare g.row.CAP s.len c.args.len s.bytes i.0 i.1 i.2 c.requires _ is (omega (arith, w.if-len-was.true)),
          )
      | else-len-was w ↦ rw (w.self-inside-is) (c.requires, i.1, grown_spare g.row.CAP s.len c.args.len s.bytes i.0 i.1 i.2 c.requires w.if-len-was.false)
    ]

pub returns : goal.returns
returns g c =
    let s = c.self.inside in
    let i = c.self.invariant in
    elim c.if-len-was.branch [
      | then-len-was w ↦
          let is = ap (λ r. r.bytes) w.self-inside-is ∙ w.blank.ensures in
          rw (← c.self.view_is) (cut_front g.row.CAP s.len c.args.len s.bytes i.0 i.1 i.2 c.requires _ is (omega (arith, w.if-len-was.true)))
      | else-len-was w ↦ rw (w.self-inside-is, ← c.self.view_is) (grown g.row.CAP s.len c.args.len s.bytes i.0 i.1 i.2 c.requires w.if-len-was.false)
    ]
