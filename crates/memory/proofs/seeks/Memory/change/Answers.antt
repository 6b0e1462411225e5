use Rattle.std.proofs.Common.{Some, sym, refl, ap, ◌∙◌, arith, rules}
use Rattle.std.proofs.lemmas.Grind.{common_steps}
use Rattle.store.specs.Durable.{generated}
use Rattle.store.proofs.Finds.{position-none, position_some}
use Rattle.store.proofs.Rows.{row-there, row-changed}
use Rattle.memory.proofs.seeks.Memory.change.Goals as goal

pub returns-in_err-i-clause-answer : goal.returns-in_err-i-clause-answer
returns-in_err-i-clause-answer g c = grind (arith, common_steps, position-none)

pub returns-in_err-i-clause-state : goal.returns-in_err-i-clause-state
returns-in_err-i-clause-state g c =
    let none = position-none (generated c.args.generation) c.args.self.now.files (sym c.in_err-i.ensures.ok_part ∙ c.find_generation.ensures) in
    record { said = rw none refl }

pub returns-clause-answer : goal.returns-clause-answer
returns-clause-answer g c =
    let at = position_some (generated c.args.generation) c.args.self.now.files c.in_ok-i.i (sym c.in_ok-i.ensures.ok_part ∙ c.find_generation.ensures) in
    let it = at.it c.index-files-i.result in rw it

pub returns-clause-state : goal.returns-clause-state
returns-clause-state g c =
    let t = c.self.inside.files in
    let p = generated c.args.generation in
    let i = c.in_ok-i.i in
    let at = rw (← c.self.view_is) at (position_some p c.args.self.now.files i (sym c.in_ok-i.ensures.ok_part ∙ c.find_generation.ensures)) in
    let there = row-there t.rows t.count i c.index-files-i.result p at in
    let rows = row-changed t.rows t.count i c.index-files-i.result p at (λ _. c.change.new.arg2) c.change.new.arg2 refl in
    let here = at.it c.index-files-i.result ∙ ap Some there in
    rw (← c.self.view_is) (record { said = rw here (c.change.new.arg2, search rules, grind (arith, common_steps)) })
