-- The register: which names are leased to which handles. Its open, close, remove and restart are steps over those of the
-- injection layer.
use Rattle.std.specs.Prelude.{ℕ, Bool, cond, not, ◌&&◌, List, [], ◌∷◌, ◌++◌, is_some, Ok, Err, filter, Result, nat_eq}
use Rattle.std.specs.Str.{bytes_eq}
use Rattle.fault.specs.declared.Fault.{Fault}
use Rattle.fault.specs.declared.Fault.TheVariants.{AlreadyOpen}
use Rattle.std.specs.List.{find}
use Rattle.store.specs.Tables.{without}
use Rattle.store.specs.Meaning.{Done, when_ok}
use Rattle.steps.specs.State.{Lease, Faulty, Bench, Outcome}
use Rattle.steps.specs.Faulty.{open_step, close_step, remove_step, remove_partition_step, restart_step}

-- a lease of a partition and a name
abbrev pub lease_of : List ℕ → List ℕ → Lease → Bool
lease_of p n l = bytes_eq l.partition p && bytes_eq l.name n

-- partition and name are leased
abbrev pub leased : List Lease → List ℕ → List ℕ → Bool
leased ls p n = is_some (find (lease_of p n) ls)

-- a step of the layer below, with these leases after it
abbrev pub lifted : {A : Type 0} → Outcome Faulty A → List Lease → Outcome Bench A
lifted o ls = record { answer = o.answer; area = o.area; taken = o.taken; next = record { under = o.next; leases = ls } }

-- after the open below succeeds, a leased name is AlreadyOpen and the new handle is closed; a free one is leased to it
abbrev pub registered : List Lease → List ℕ → List ℕ → Outcome Faulty (Result (ℕ × ℕ) Fault) → Result (ℕ × ℕ) Fault → Outcome Bench (Result (ℕ × ℕ) Fault)
registered ls p n o (Err f) = lifted o ls
registered ls p n o (Ok a) =
    cond (leased ls p n)
    (record { answer = Err AlreadyOpen; area = o.area; taken = o.taken; next = record { under = (close_step o.next a.0).next; leases = ls } })
    (lifted o (ls ++ (record { partition = p; name = n; handle = a.0 } ∷ [])))

-- an open below, and then the register
abbrev pub open_call : Bench → List ℕ → List ℕ → List ℕ → Outcome Bench (Result (ℕ × ℕ) Fault)
open_call b p n header = let o = open_step b.under p n header in registered b.leases p n o o.answer

-- a close frees a lease only if it is that handle's
abbrev pub close_call : Bench → ℕ → Outcome Bench Done
close_call b h =
    let o = close_step b.under h in lifted o (when_ok o.answer (without (λ l. nat_eq l.handle h) b.leases) b.leases)

-- a removal frees the removed names
abbrev pub remove_call : Bench → List ℕ → List ℕ → Outcome Bench Done
remove_call b p n =
    let o = remove_step b.under p n in lifted o (when_ok o.answer (without (lease_of p n) b.leases) b.leases)

-- a removal of a partition frees all its names
abbrev pub remove_partition_call : Bench → List ℕ → Outcome Bench Done
remove_partition_call b p =
    let o = remove_partition_step b.under p in
    lifted o (when_ok o.answer (filter (λ l. not (bytes_eq l.partition p)) b.leases) b.leases)

-- a restart frees all
abbrev pub restart_call : Bench → Outcome Bench Done
restart_call b = lifted (restart_step b.under) []
