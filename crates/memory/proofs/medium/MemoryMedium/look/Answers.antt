use Rattle.std.proofs.Common.{length, sym, arith}
use Rattle.std.proofs.lemmas.Grind.{common_steps}
use Rattle.store.specs.Durable.{named}
use Rattle.store.proofs.Finds.{position_some}
use Rattle.memory.proofs.Standing.{file_found, file_missing, file_ok}
use Rattle.memory.proofs.medium.MemoryMedium.look.Goals as goal

-- these stay answers: named at the function, the lemma is not found
pub returns-in_err-i-clause-answer : goal.returns-in_err-i-clause-answer
returns-in_err-i-clause-answer c = grind (arith, common_steps, file_missing)

pub returns-in_err-i-clause-put : goal.returns-in_err-i-clause-put
returns-in_err-i-clause-put c = grind (arith, common_steps, file_missing)

pub returns-clause-answer : goal.returns-clause-answer
returns-clause-answer c =
    let v = c.args.self.now in
    let p = c.args.partition.now in
    let n = c.args.name.now in
    let h = sym c.in_ok-i.ensures in
    let at = position_some (named p n) v.files c.in_ok-i.i (file_found v p n c.in_ok-i.i h) in
    let ok = file_ok v p n c.in_ok-i.i h _ (at.it c.index-as_slice-i.result) (λ f. length f.durable) in
    let it = at.it c.index-as_slice-i.result in
    grind (arith, common_steps)

pub returns-clause-put : goal.returns-clause-put
returns-clause-put c =
    let v = c.args.self.now in
    let p = c.args.partition.now in
    let n = c.args.name.now in
    let h = sym c.in_ok-i.ensures in
    let at = position_some (named p n) v.files c.in_ok-i.i (file_found v p n c.in_ok-i.i h) in
    let ok = file_ok v p n c.in_ok-i.i h _ (at.it c.index-as_slice-i.result) (λ f. length f.durable) in
    let it = at.it c.index-as_slice-i.result in
    grind (arith, common_steps)
