use Rattle.std.proofs.Common.{sym, ◌∙◌, arith}
use Rattle.std.proofs.lemmas.Grind.{common_steps}
use Rattle.store.specs.declared.file.File.{File}
use Rattle.store.specs.Durable.{generated, file_laid}
use Rattle.store.proofs.Finds.{position-none, position_some, amended-none}
use Rattle.store.proofs.Rows.{row-changed}
use Rattle.memory.proofs.seeks.Memory.lay.Goals as goal

pub returns-in_default : goal.returns-in_default
returns-in_default c = grind (arith, common_steps, position-none, amended-none)

pub returns-in-Some : goal.returns-in-Some
returns-in-Some c =
    let t = c.self.inside.files in
    let p = generated c.args.generation in
    let at = rw (← c.self.view_is) at (position_some p c.args.self.now.files c.in-Some.i (sym c.in-Some.is ∙ c.find_generation.ensures)) in
    let rows = row-changed t.rows t.count c.in-Some.i c.index-files-i.result p at (λ (f : File). file_laid f c.args.offset c.args.patch.now) c.lay.new.self in
    grind (arith, common_steps)
