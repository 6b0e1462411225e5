-- What a scan lists, in words that do not mention how it sorts.
use Rattle.std.specs.Prelude.{◌≡◌, ℕ, true, List, [], ◌∷◌, map, filter}
use Rattle.std.specs.List.{AllByRecursion}
use Rattle.std.specs.List.Sorted.{IsPermutation}
use Rattle.name.specs.Names.{before}
use Rattle.name.specs.Listings.{sorted}
use Rattle.store.specs.Meaning.{Volume}
use Rattle.store.specs.Durable.{in_partition}
use Rattle.reached.specs.Calls.{Call, reached}

-- each name comes before all that follow it; std's `AllPairs` says this place by place, and the proofs go by recursion
abbrev pub Ascending : List (List ℕ) → Type 0
Ascending [] = Unit {0}
Ascending (n ∷ ns) = AllByRecursion (λ m. before n m ≡ true) ns × Ascending ns

-- the names of a partition's files
abbrev pub names_in : Volume → List ℕ → List (List ℕ)
names_in v p = map (λ f. f.name) (filter (in_partition p) v.files)

-- Whatever calls came before, a scan lists exactly the names of the partition's files, each once, in ascending order.
abbrev pub ScansAscend : Type 0
ScansAscend = (cs : List Call) (p : List ℕ) → let ns = names_in (reached cs).volume p in Ascending (sorted ns) × IsPermutation ns (sorted ns)
