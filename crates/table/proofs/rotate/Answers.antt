use Rattle.std.proofs.Common.{sym, ◌∙◌}
use Rattle.std.proofs.lemmas.Bool.{lt-ltb, cond-true}
use Rattle.table.proofs.Uses.{retired}
use Rattle.table.proofs.rotate.Goals as goal

pub returns : goal.returns
returns g c =
    retired c.args.rows.now c.rotate_left.new.self c.args.i c.requires c.rotate_left.ensures.after
    ∙ sym (cond-true _ _ _ (lt-ltb _ _ c.requires))
