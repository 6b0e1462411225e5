-- The worked cases of the journal, each by computing: handle 0, a header of two bytes, which is not shown.
use Rattle.std.specs.Prelude.{◌≡◌, ℕ, true, false, List, [], ◌∷◌, map, drop, Some, None, Ok, Err}
use Rattle.fault.specs.declared.Op.TheVariants as op
use Rattle.fault.specs.declared.Fault.TheVariants.{Injected, BlobMissing}
use Rattle.draw.specs.Sources.{tape_words}
use Rattle.draw.specs.declared.select.PartialWriteMode.{PartialWriteMode}
use Rattle.draw.specs.declared.select.PartialWriteMode.TheVariants.{Prefix, Subset}
use Rattle.steps.specs.State.{Rates, unset, Bench, Outcome}
use Rattle.steps.specs.Calls.{Call, Open, Remove, Read, Write, Resize, Size, StartSync, Configure, Crash, Reply, Counted, Told, Turn, run}

-- rates of writes alone
abbrev pub write_rates : ℕ → ℕ → PartialWriteMode → Rates
write_rates failure retention mode = record {
  opens = None;
  reads = None;
  writes = Some (record { failure = failure; retention = retention; mode = mode });
  syncs = None;
  resizes = None;
  removes = None;
  scans = None;
}

-- rates of resizes alone
abbrev pub resize_rates : ℕ → ℕ → Rates
resize_rates failure partial = record {
  opens = None;
  reads = None;
  writes = None;
  syncs = None;
  resizes = Some (record { failure = failure; partial = partial });
  removes = None;
  scans = None;
}

-- R: every byte of a plain write survives a crash, and no write fails
abbrev R : Call
R = Configure (write_rates 0 65536 Prefix)

-- a plain write and a SYNC write
abbrev w : ℕ → List ℕ → Call
w offset bs = Write 0 offset bs false

-- and a SYNC write
abbrev W : ℕ → List ℕ → Call
W offset bs = Write 0 offset bs true

-- an open of the journal and these calls, on a tape, over an area of one byte
abbrev journal : List ℕ → List Call → Outcome Bench (List Turn)
journal tape cs = run (tape_words tape) (0 ∷ []) (Open (98 ∷ []) (106 ∷ []) (66 ∷ 74 ∷ []) ∷ cs)

-- the file behind its header
abbrev left : List ℕ → List Call → List (List ℕ)
left tape cs = map (λ f. drop 2 f.durable) (journal tape cs).next.under.store.volume.files

-- the answers behind the open's
abbrev told : List ℕ → List Call → List Reply
told tape cs = map (λ t. t.reply) (drop 1 (journal tape cs).answer)

-- What each case leaves or answers.
pub record CasesHold : Type 0 where
  pub one : left [] (R ∷ w 0 (0x41 ∷ 0x42 ∷ 0x43 ∷ []) ∷ Crash ∷ []) ≡ (0x41 ∷ 0x42 ∷ 0x43 ∷ []) ∷ []
  pub one_unset : left [] (w 0 (0x41 ∷ 0x42 ∷ 0x43 ∷ []) ∷ Crash ∷ []) ≡ [] ∷ []
  pub two : left [] (R ∷ w 0 (0x41 ∷ 0x42 ∷ 0x43 ∷ []) ∷ W 1 (0x58 ∷ []) ∷ Crash ∷ []) ≡ (0x41 ∷ 0x58 ∷ 0x43 ∷ []) ∷ []
  pub three : left (40000 ∷ 1 ∷ []) (W 0 (0x41 ∷ 0x42 ∷ 0x43 ∷ []) ∷ Configure (resize_rates 32768 0) ∷ Resize 0 1 ∷ Crash ∷ []) ≡ (0x41 ∷ []) ∷ []
  pub four : left (40000 ∷ 1 ∷ []) (W 0 (0x41 ∷ 0x42 ∷ 0x43 ∷ []) ∷ Configure (resize_rates 32768 0) ∷ Resize 0 1 ∷ W 2 (0x5a ∷ []) ∷ Crash ∷ [])
      ≡ (0x41 ∷ 0x00 ∷ 0x5a ∷ []) ∷ []
  pub five : left (1 ∷ 40000 ∷ []) (Configure (write_rates 0 32768 Prefix) ∷ w 0 (0x41 ∷ 0x42 ∷ 0x43 ∷ []) ∷ Crash ∷ []) ≡ (0x41 ∷ []) ∷ []
  pub six : left (40000 ∷ 1 ∷ 1 ∷ []) (Configure (write_rates 0 32768 Subset) ∷ w 0 (0x41 ∷ 0x42 ∷ 0x43 ∷ []) ∷ W 1 (0x58 ∷ []) ∷ Crash ∷ [])
      ≡ (0x00 ∷ 0x58 ∷ 0x43 ∷ []) ∷ []
  pub seven : left (1 ∷ 40000 ∷ 1 ∷ []) (Configure (write_rates 65536 32768 Subset) ∷ w 0 (0x41 ∷ 0x42 ∷ 0x43 ∷ []) ∷ []) ≡ (0x41 ∷ 0x00 ∷ 0x43 ∷ []) ∷ []
  pub seven_told : told (1 ∷ 40000 ∷ 1 ∷ []) (Configure (write_rates 65536 32768 Subset) ∷ w 0 (0x41 ∷ 0x42 ∷ 0x43 ∷ []) ∷ Size 0 ∷ [])
      ≡ Told (Ok tt) ∷ Told (Err (Injected op.Write)) ∷ Counted (Ok 3) ∷ []
  pub eight : told (3 ∷ []) (Resize 0 5 ∷ Configure (resize_rates 65536 65536) ∷ Resize 0 6 ∷ Size 0 ∷ Resize 0 8 ∷ Size 0 ∷ [])
      ≡ Told (Ok tt) ∷ Told (Ok tt) ∷ Told (Err (Injected op.Resize)) ∷ Counted (Ok 5) ∷ Told (Err (Injected op.Resize)) ∷ Counted (Ok 7) ∷ []
  pub nine : left [] (R ∷ w 0 (0x41 ∷ []) ∷ Configure unset ∷ w 0 (0x42 ∷ []) ∷ StartSync 0 ∷ Crash ∷ []) ≡ (0x42 ∷ []) ∷ []
  pub ten : told [] (Remove (98 ∷ []) (Some (106 ∷ [])) ∷ W 0 (0x41 ∷ []) ∷ Read 0 0 0 1 ∷ Size 0 ∷ [])
      ≡ Told (Ok tt) ∷ Told (Err BlobMissing) ∷ Told (Ok tt) ∷ Counted (Ok 0) ∷ []
  pub ten_area : (journal [] (Remove (98 ∷ []) (Some (106 ∷ [])) ∷ W 0 (0x41 ∷ []) ∷ Read 0 0 0 1 ∷ [])).area ≡ 0x41 ∷ []
