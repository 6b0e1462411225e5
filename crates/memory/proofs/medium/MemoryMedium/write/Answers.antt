use Rattle.std.proofs.Common.{◌+◌, length, ◌∙◌, rules}
use Rattle.content.specs.Bytes.{within, written}
use Rattle.store.specs.declared.file.File.{File}
use Rattle.store.specs.Meaning.{with_durable}
use Rattle.memory.proofs.Changes.{changed-by, kept-within}
use Rattle.memory.proofs.medium.MemoryMedium.write.Goals as goal

pub returns-clause-state : goal.returns-clause-state
returns-clause-state c =
    changed-by _ c.args.self.now c.change.new.self c.args.generation (λ (f : File). with_durable f (within (c.args.at + length c.args.bytes.now) (written f.durable c.args.at c.args.bytes.now) f.durable)) c.change.ensures.state (λ f f' r. search rules)
    ∙ kept-within c.args.self.now c.args.generation c.args.at c.args.bytes.now
