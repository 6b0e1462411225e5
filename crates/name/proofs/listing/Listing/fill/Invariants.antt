use Rattle.name.proofs.Listed.{Listed}
use Rattle.name.proofs.listing.Listing.fill.Given as goal

-- the names gone through stand in the area
abbrev pub invariant-loop-name : goal.invariant-loop-name
invariant-loop-name l = Listed l.self l.name-index l.initial.area l.area l.at
