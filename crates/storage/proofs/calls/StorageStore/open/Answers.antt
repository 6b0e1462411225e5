use Rattle.std.proofs.Common.{◌≡◌, ℕ, Some, None, Err, Option, Result, refl, arith}
use Rattle.fault.specs.declared.Fault.{Fault}
use Rattle.store.specs.Meaning.{Disk, permitted, refused, when_ok}
use Rattle.store.specs.Whole.{open_fault}
use Rattle.storage.proofs.calls.StorageStore.open.Goals as goal

-- a fault that is met leaves all as it was
stays : (o : Option Fault) (f : Fault) (m new : Disk) (r : Result (ℕ × ℕ) Fault) → Err f ≡ permitted o → m ≡ when_ok (refused o r) new m
stays None f m new r e = absurd (let z : ◌≡◌ {A = ℕ} 0 1 = cc in omega arith)
stays (Some x) f m new r e = refl

pub returns-in_err-ask_open-clause-state : goal.returns-in_err-ask_open-clause-state
returns-in_err-ask_open-clause-state g c =
    stays (open_fault c.args.self.now c.args.partition.now c.args.name.now c.args.header.now) _ c.args.self.now _ _ c.in_err-ask_open.ensures
