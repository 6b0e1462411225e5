use Rattle.draw.proofs.Tapes.{short-rest}
use Rattle.draw.proofs.tape.TapeSource.next.Goals as goal

pub invariant_of-self : goal.invariant_of-self
invariant_of-self c =
    let tape = c.args.self.now in
    record { short = short-rest tape.words.now c.in-Some.first.now c.in-Some.others.now c.in-Some.ensures.cases.0 tape.short }
