use Rattle.std.proofs.Common.{◌≡◌}
use Rattle.name.specs.Listings.{placed}
use Rattle.name.proofs.Passes.{passing}
use Rattle.name.proofs.listing.pass.Given as goal

-- the names passed, and what is still to be placed among the others
abbrev pub invariant-loop-here : goal.invariant-loop-here
invariant-loop-here l =
    passing l.here-items l.here-index l.last ≡ placed l.fn.name l.fn.names
