use Rattle.std.proofs.Common.{rules}
use Rattle.store.specs.declared.file.File.{File}
use Rattle.store.specs.Durable.{file_cut}
use Rattle.memory.proofs.Changes.{changed-by}
use Rattle.memory.proofs.seeks.Memory.cut.Goals as goal

pub returns : goal.returns
returns c =
    changed-by _ c.args.self.now c.change-found.new.self c.args.generation (λ (f : File). file_cut f c.args.len) c.change-found.ensures.state (λ f f' r. search rules)
