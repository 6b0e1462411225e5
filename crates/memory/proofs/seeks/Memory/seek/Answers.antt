use Rattle.std.proofs.Common.{sym}
use Rattle.std.specs.Option.{ok_or}
use Rattle.std.specs.List.{position}
use Rattle.std.proofs.lemmas.Result.{err_from_is_err_and}
use Rattle.fault.specs.declared.Fault.TheVariants.{BlobMissing}
use Rattle.store.specs.Durable.{named}
use Rattle.memory.proofs.Standing.{missing}
use Rattle.memory.proofs.seeks.Memory.seek.Goals as goal

pub returns-in_err-seek_partition : goal.returns-in_err-seek_partition
returns-in_err-seek_partition c =
    let p = err_from_is_err_and c.from_residual.result c.from_residual.ensures.1 in
    rw (p.1, p.2)
    (sym (missing c.args.self.now c.args.partition.now _ (sym c.in_err-seek_partition.ensures)
    (ok_or (position (named c.args.partition.now c.args.name.now) c.args.self.now.files) BlobMissing)))
