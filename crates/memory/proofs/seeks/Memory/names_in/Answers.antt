use Rattle.std.proofs.Common.{ap, ◌∙◌, arith}
use Rattle.std.proofs.lemmas.Grind.{common_steps}
use Rattle.store.specs.declared.file.File.{File}
use Rattle.store.specs.Durable.{in_partition}
use Rattle.name.proofs.Passes.{length_placed}
use Rattle.memory.proofs.Kept.{sorted_row}
use Rattle.memory.proofs.seeks.Memory.names_in.Goals as goal

pub loop-file-preserved : goal.loop-file-preserved
loop-file-preserved c =
    let same = c.as_slice-file-items.ensures.value ∙ ap (λ v. v.files) c.self.view_is in
    let row = sorted_row (λ (f : File). f.name) (in_partition c.args.partition.now) c.args.self.now.files c.loop-file.file-index c.file-item.result
    (rw same at c.loop-file-test.true) (rw same at c.file-item.is) in
    grind (arith, common_steps, length_placed)
