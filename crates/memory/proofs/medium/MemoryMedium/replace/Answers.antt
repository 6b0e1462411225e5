use Rattle.std.proofs.Common.{rules}
use Rattle.store.specs.declared.file.File.{File}
use Rattle.store.specs.Meaning.{with_durable}
use Rattle.memory.proofs.Changes.{changed-by}
use Rattle.memory.proofs.medium.MemoryMedium.replace.Goals as goal

pub returns-clause-state : goal.returns-clause-state
returns-clause-state c =
    changed-by _ c.args.self.now c.change.new.self c.args.generation (λ (f : File). with_durable f c.args.live.now) c.change.ensures.state (λ f f' r. search rules)
