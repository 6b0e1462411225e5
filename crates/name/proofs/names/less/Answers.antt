use Rattle.name.proofs.Orders.{less-is-before}
use Rattle.name.proofs.names.less.Goals as goal

pub returns : goal.returns
returns c = less-is-before c.args.a.now c.args.b.now c.lt.result c.lt.ensures
