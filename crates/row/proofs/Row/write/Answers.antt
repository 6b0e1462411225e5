use Rattle.std.proofs.Common.{arith}
use Rattle.row.proofs.Spare.{put_length, put_spare, put_front}
use Rattle.row.proofs.Row.write.Goals as goal

pub invariant_of-self : goal.invariant_of-self
invariant_of-self g c =
    let s = c.self.inside in
    let i = c.self.invariant in
    let m = c.max-self-inside.ensures in (
      omega (arith, i.0, c.requires, m),
      put_length g.row.CAP s.len c.args.at c.max-self-inside.result s.bytes c.args.bytes.now _ i.0 i.1 i.2 c.requires c.paste.ensures m,
      put_spare g.row.CAP s.len c.args.at c.max-self-inside.result s.bytes c.args.bytes.now _ i.0 i.1 i.2 c.requires c.paste.ensures m,
    )

pub returns : goal.returns
returns g c =
    let s = c.self.inside in
    let i = c.self.invariant in
    rw (← c.self.view_is)
    (put_front g.row.CAP s.len c.args.at c.max-self-inside.result s.bytes c.args.bytes.now _ i.0 i.1 i.2 c.requires c.paste.ensures c.max-self-inside.ensures)
