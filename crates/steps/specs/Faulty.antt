-- The steps of the injection layer.
use Rattle.std.specs.Prelude.{ℕ, suc, ◌+◌, ◌-◌, ◌^◌, min, max, Bool, true, false, cond, not, ◌&&◌, ◌||◌, List, [], ◌∷◌, ◌++◌, length, Some, None, Ok, Err, Option, Result, ◌==◌, nat_eq, nat_le, nat_lt, map}
use Rattle.std.specs.Result.{is_ok}
use Rattle.fault.specs.declared.Op.{Op}
use Rattle.fault.specs.declared.Op.TheVariants.{Open, Read, Write, Sync, Resize, Remove, Scan}
use Rattle.fault.specs.declared.Fault.{Fault}
use Rattle.fault.specs.declared.Fault.TheVariants.{NoTicket, WriteOverflow, BadRate, TicketsFull, LogFull, Injected}
use Rattle.draw.specs.Words.{after, rolled, roll_taken, picked, pick_taken}
use Rattle.draw.specs.Selections.{selected, select_taken}
use Rattle.content.specs.Patches.{Patch, patch}
use Rattle.std.specs.List.{find, fold}
use Rattle.store.specs.Tables.{amended, without}
use Rattle.store.specs.Meaning.{Disk, Done, with_volume, when_some, when_ok, refused}
use Rattle.store.specs.Live.{generation_of, held_fault, write_fault, resize_fault, read_answer, read_area}
use Rattle.store.specs.Durable.{remove_fault, remove_answer, removed, remove_partition_fault, remove_partition_answer, removed_partition, generation_at, generations_in, scan_fault, scan_answer, scan_leaves, look_answer, look_leaves}
use Rattle.store.specs.Whole.{open_fault, open_answer, opened, write_answer, wrote, resize_answer, resized, sync_answer, synced, close_answer, closed_disk, restarted}
use Rattle.steps.specs.Log.{Entry, Wrote, Resized, Marked, log_full, recorded, fixed, dropped, settled, replayed}
use Rattle.steps.specs.State.{WriteRates, ResizeRates, Rates, rate_of, write_failure, retention, Size, Faulty, Outcome, least, with_words, changed}

-- a refusal before any draw alters nothing
abbrev pub turned : {A : Type 0} → Option Fault → Faulty → List ℕ → Outcome Faulty (Result A Fault) → Outcome Faulty (Result A Fault)
turned None b area o = o
turned (Some f) b area o = record { answer = Err f; area = area; taken = 0; next = b }

-- an injected fault after n words
abbrev pub struck : {A : Type 0} → Op → Faulty → List ℕ → ℕ → Outcome Faulty (Result A Fault)
struck op b area n = record { answer = Err (Injected op); area = area; taken = n; next = with_words b (after n b.words) }

-- A roll at a rate: on yes the operation is struck, else it goes on.
abbrev pub rolling : {A : Type 0} → ℕ → Op → Faulty → List ℕ → Outcome Faulty (Result A Fault) → Outcome Faulty (Result A Fault)
rolling rate op b area o = cond (rolled rate b.words) (struck op b area (roll_taken rate)) o

-- what a call comes to that took n words, answers and leaves a state
abbrev pub done : {A : Type 0} → A → List ℕ → ℕ → Faulty → Outcome Faulty A
done a area n b = record { answer = a; area = area; taken = n; next = with_words b (after n b.words) }

-- the size of a handle, by its number
abbrev pub is_size : ℕ → Size → Bool
is_size h s = s.handle == h

-- the size of a handle
abbrev pub size_in : List Size → ℕ → ℕ
size_in ss h = when_some (find (is_size h) ss) (λ s. s.size) 0

-- a size becomes at least an end
abbrev pub grown : List Size → ℕ → ℕ → List Size
grown ss h end = amended (is_size h) (λ s. record { handle = s.handle; size = max s.size end }) ss

-- a size is set
abbrev pub sized_to : List Size → ℕ → ℕ → List Size
sized_to ss h len = amended (is_size h) (λ s. record { handle = s.handle; size = len }) ss

-- a new handle begins with the size that its open gave
abbrev pub sizes_with : List Size → Result (ℕ × ℕ) Fault → List Size
sizes_with ss (Ok a) = ss ++ (record { handle = a.0; size = a.1 } ∷ [])
sizes_with ss (Err f) = ss

-- open rolls, then calls the store
abbrev pub open_step : Faulty → List ℕ → List ℕ → List ℕ → Outcome Faulty (Result (ℕ × ℕ) Fault)
open_step b p n header =
    let rate = rate_of b.rates.opens in
    let a = open_answer b.store p n header in
    turned (open_fault b.store p n header) b []
    (rolling rate Open b [] (done a [] (roll_taken rate) (changed b (opened b.store p n header) b.log (sizes_with b.sizes a))))

-- the generations of a removal of one file
abbrev pub generations_of : Option ℕ → List ℕ
generations_of None = []
generations_of (Some g) = g ∷ []

-- a removal rolls, calls the store, and then drops the entries of the generations that it took
abbrev pub remove_step : Faulty → List ℕ → List ℕ → Outcome Faulty Done
remove_step b p n =
    let rate = rate_of b.rates.removes in
    let v = b.store.volume in
    let a = remove_answer v p n in
    turned (remove_fault p n) b []
    (rolling rate Remove b []
    (done a [] (roll_taken rate) (changed b (with_volume b.store (removed v p n)) (when_ok a (fold dropped b.log (generations_of (generation_at v p n))) b.log) b.sizes)))

-- a removal of a partition likewise
abbrev pub remove_partition_step : Faulty → List ℕ → Outcome Faulty Done
remove_partition_step b p =
    let rate = rate_of b.rates.removes in
    let v = b.store.volume in
    let a = remove_partition_answer v p in
    turned (remove_partition_fault p) b []
    (rolling rate Remove b []
    (done a [] (roll_taken rate) (changed b (with_volume b.store (removed_partition v p)) (when_ok a (fold dropped b.log (generations_in v p)) b.log) b.sizes)))

-- a scan rolls, then calls the store
abbrev pub scan_step : Faulty → List ℕ → List ℕ → Outcome Faulty (Result ℕ Fault)
scan_step b p area =
    let rate = rate_of b.rates.scans in
    turned (scan_fault p (length area)) b area
    (rolling rate Scan b area (done (scan_answer b.store.volume p (length area)) (scan_leaves b.store.volume p area) (roll_taken rate) b))

-- a look takes no word
abbrev pub look_step : Faulty → List ℕ → List ℕ → List ℕ → Outcome Faulty (Result ℕ Fault)
look_step b p n area = done (look_answer b.store.volume p n (length area)) (look_leaves b.store.volume p n area) 0 b

-- a read rolls, then reads
abbrev pub read_step : Faulty → ℕ → ℕ → List ℕ → Outcome Faulty Done
read_step b h offset area =
    let rate = rate_of b.rates.reads in
    turned (held_fault b.store.handles h) b area
    (rolling rate Read b area (done (read_answer b.store.handles h offset (length area)) (read_area b.store.handles h offset area) (roll_taken rate) b))

-- size tells the size of a handle
abbrev pub size_step : Faulty → ℕ → Outcome Faulty (Result ℕ Fault)
size_step b h = done (refused (held_fault b.store.handles h) (Ok (size_in b.sizes h))) [] 0 b

-- no byte
abbrev pub is_empty : List ℕ → Bool
is_empty [] = true
is_empty (x ∷ xs) = false

-- a write's end passes 2^64 - 1
abbrev pub overflow : ℕ → ℕ → Option Fault
overflow offset len = cond (nat_lt (offset + len) (2 ^ 64)) None (Some WriteOverflow)

-- a call that may record finds the log full
abbrev pub full_fault : List Entry → Bool → Option Fault
full_fault es records = cond (log_full es && records) (Some LogFull) None

-- what a write meets before any draw: the smallest number of NoHandle, TooLong, WriteOverflow, NoSpace, LogFull
abbrev pub write_refusal : Faulty → ℕ → ℕ → List ℕ → Option Fault
write_refusal b h offset bs =
    least (write_fault b.store.handles h offset (length bs)) (least (overflow offset (length bs)) (full_fault b.log (not (is_empty bs))))

-- a change of the log for a handle's generation
abbrev pub log_for : Faulty → ℕ → (ℕ → List Entry) → List Entry
log_for b h f = when_some (generation_of b.store.handles h) f b.log

-- one more byte in front of some runs: it joins the first of them if that begins right behind it
abbrev pub join_run : ℕ → ℕ → List (ℕ × List ℕ) → List (ℕ × List ℕ)
join_run o x [] = (o, x ∷ []) ∷ []
join_run o x (r ∷ rs) = cond (r.0 == suc o) ((o, x ∷ r.1) ∷ rs) ((o, x ∷ []) ∷ (r ∷ rs))

-- the maximal runs of the bytes of a patch that begins at an offset, each with its own offset
abbrev pub runs : ℕ → Patch → List (ℕ × List ℕ)
runs o [] = []
runs o (None ∷ os) = runs (suc o) os
runs o (Some x ∷ os) = join_run o x (runs (suc o) os)

-- What the runs of a failing write come to: a store fault that stopped them, the store and the sizes.
pub record Ran : Type 0 where
  pub fault : Option Fault
  pub store : Disk
  pub sizes : List Size

-- after a store fault the live change stays and the size does not move
abbrev pub ran_on : Done → Disk → List Size → List Size → (Disk → List Size → Ran) → Ran
ran_on (Ok _) m new old more = more m new
ran_on (Err f) m new old more = record { fault = Some f; store = m; sizes = old }

-- each run in order is a SYNC write of the store; a store fault stops them
abbrev pub ran : List (ℕ × List ℕ) → ℕ → Disk → List Size → Ran
ran [] h m ss = record { fault = None; store = m; sizes = ss }
ran (r ∷ rs) h m ss =
    ran_on (write_answer m h r.0 r.1 true) (wrote m h r.0 r.1 true) (grown ss h (r.0 + length r.1)) ss (ran rs h)

-- A failing write with retention draws a selection, and its runs become durable. They are fixed together, as one entry if
-- any is appended; after a store fault, which only the first run can meet, nothing is fixed.
abbrev pub failing_write : Faulty → WriteRates → ℕ → ℕ → List ℕ → ℕ → Outcome Faulty Done
failing_write b w h offset bs n =
    let words = after n b.words in
    let chosen = patch bs (selected w.mode w.retention (length bs) words) in
    let end = ran (runs offset chosen) h b.store b.sizes in
    done (when_some end.fault Err (Err (Injected Write))) [] (n + select_taken w.mode w.retention (length bs) words)
    (changed b end.store (when_some end.fault (λ _. b.log) (log_for b h (λ g. fixed b.log g offset chosen))) end.sizes)

-- a write is recorded if retention is set and it has a byte; only a plain write comes here empty
abbrev pub recording : Faulty → ℕ → ℕ → List ℕ → List Entry
recording b h offset bs =
    when_some (retention b.rates) (λ w. cond (is_empty bs) b.log (log_for b h (λ g. recorded b.log (Wrote g offset (map Some bs) w.mode w.retention)))) b.log

-- a write of the store: a fault ends it; else the log and the size follow
abbrev pub writing : Faulty → ℕ → ℕ → List ℕ → Bool → List Entry → Done → ℕ → Outcome Faulty Done
writing b h offset bs sync es ok n =
    let a = write_answer b.store h offset bs sync in
    done (when_ok a ok a) [] n
    (changed b (wrote b.store h offset bs sync) (when_ok a es b.log) (when_ok a (grown b.sizes h (offset + length bs)) b.sizes))

-- after its failure roll said no, a SYNC write rolls sync
abbrev pub good_write : Faulty → ℕ → ℕ → List ℕ → Bool → ℕ → Outcome Faulty Done
good_write b h offset bs false n = writing b h offset bs false (recording b h offset bs) (Ok tt) n
good_write b h offset bs true n =
    let rate = rate_of b.rates.syncs in
    let words = after n b.words in
    cond (rolled rate words)
    (writing b h offset bs false (recording b h offset bs) (Err (Injected Sync)) (n + roll_taken rate))
    (writing b h offset bs true (log_for b h (λ g. fixed b.log g offset (map Some bs))) (Ok tt) (n + roll_taken rate))

-- an empty SYNC write succeeds after the handle check alone
abbrev pub write_step : Faulty → ℕ → ℕ → List ℕ → Bool → Outcome Faulty Done
write_step b h offset bs sync =
    let rate = write_failure b.rates in
    cond (sync && is_empty bs)
    (done (refused (held_fault b.store.handles h) (Ok tt)) [] 0 b)
    (turned (write_refusal b h offset bs) b []
    (cond (rolled rate b.words)
    (when_some (retention b.rates) (λ w. failing_write b w h offset bs (roll_taken rate)) (struck Write b [] (roll_taken rate)))
    (good_write b h offset bs sync (roll_taken rate))))

-- a resize of the store, which may be recorded; the size becomes its length
abbrev pub resizing : Faulty → ℕ → ℕ → Bool → Done → ℕ → Outcome Faulty Done
resizing b h len records ok n =
    let a = resize_answer b.store h len in
    done (when_ok a ok a) [] n
    (changed b (resized b.store h len)
    (when_ok a (cond records (log_for b h (λ g. recorded b.log (Resized g len))) b.log) b.log)
    (when_ok a (sized_to b.sizes h len) b.sizes))

-- a failing resize rolls partial; on yes, with current size and wanted length more than 1 apart, it goes to a length between
abbrev pub failing_resize : Faulty → ResizeRates → ℕ → ℕ → ℕ → Outcome Faulty Done
failing_resize b r h len n =
    let words = after n b.words in
    let m = n + roll_taken r.partial in
    let low = min (size_in b.sizes h) len in
    let high = max (size_in b.sizes h) len in
    let span = high - low - 1 in
    cond (rolled r.partial words && nat_lt 1 (high - low))
    (resizing b h (low + 1 + picked span (after (roll_taken r.partial) words)) true (Err (Injected Resize)) (m + pick_taken span))
    (struck Resize b [] m)

-- without set rates nothing is drawn; else failure is rolled, and on no once more: yes records the resize
abbrev pub resize_step : Faulty → ℕ → ℕ → Outcome Faulty Done
resize_step b h len =
    turned (least (resize_fault b.store.handles h len) (full_fault b.log true)) b []
    (when_some b.rates.resizes
    (λ r.
    let n = roll_taken r.failure in
    cond (rolled r.failure b.words) (failing_resize b r h len n)
    (resizing b h len (rolled r.failure (after n b.words)) (Ok tt) (n + n)))
    (resizing b h len false (Ok tt) 0))

-- sync rolls, syncs, and then drops the generation's entries
abbrev pub sync_step : Faulty → ℕ → Outcome Faulty Done
sync_step b h =
    let rate = rate_of b.rates.syncs in
    let a = sync_answer b.store h in
    turned (held_fault b.store.handles h) b []
    (rolling rate Sync b [] (done a [] (roll_taken rate) (changed b (synced b.store h) (when_ok a (log_for b h (dropped b.log)) b.log) b.sizes)))

-- the most tickets held at once
abbrev pub ticket_limit : ℕ
ticket_limit = 8

-- the most tickets ever issued
abbrev pub ticket_issues : ℕ
ticket_issues = 1000000

-- no room for one more ticket, or no number left: TicketsFull, before any draw
abbrev pub tickets_fault : Faulty → Option Fault
tickets_fault b = cond (nat_le ticket_limit (length b.tickets) || nat_le ticket_issues b.issued) (Some TicketsFull) None

-- a ticket with its result
abbrev pub ticketed : Faulty → Done → Disk → List Entry → ℕ → Outcome Faulty (Result ℕ Fault)
ticketed b a m es n =
    done (Ok b.issued) [] n (record {
      store = m;
      words = b.words;
      log = es;
      rates = b.rates;
      sizes = b.sizes;
      tickets = b.tickets ++ (record { number = b.issued; result = a } ∷ []);
      issued = b.issued + 1;
    })

-- start_sync rolls; on yes its ticket holds the injected fault. Otherwise it syncs at that moment, its ticket holds the
-- result, and a marker is appended.
abbrev pub start_sync_step : Faulty → ℕ → Outcome Faulty (Result ℕ Fault)
start_sync_step b h =
    let rate = rate_of b.rates.syncs in
    let a = sync_answer b.store h in
    turned (least (held_fault b.store.handles h) (least (tickets_fault b) (full_fault b.log true))) b []
    (cond (rolled rate b.words)
    (ticketed b (Err (Injected Sync)) b.store b.log (roll_taken rate))
    (ticketed b a (synced b.store h) (log_for b h (λ g. recorded b.log (Marked g b.issued (is_ok a)))) (roll_taken rate)))

-- settle gives the ticket's result and ends it; its marker goes if it stands
abbrev pub settle_step : Faulty → ℕ → Outcome Faulty Done
settle_step b t =
    when_some (find (λ k. nat_eq k.number t) b.tickets)
    (λ k. done k.result [] 0 (record {
      store = b.store;
      words = b.words;
      log = settled b.log t;
      rates = b.rates;
      sizes = b.sizes;
      tickets = without (λ x. nat_eq x.number t) b.tickets;
      issued = b.issued;
    }))
    (done (Err NoTicket) [] 0 b)

-- close ends a handle
abbrev pub close_step : Faulty → ℕ → Outcome Faulty Done
close_step b h =
    turned (held_fault b.store.handles h) b []
    (done (close_answer b.store h) [] 0 (changed b (closed_disk b.store h) b.log (without (is_size h) b.sizes)))

-- a rate over 65,536
abbrev pub too_high : ℕ → Bool
too_high r = nat_lt 65536 r

-- a rate that is set, and too high
abbrev pub set_too_high : Option ℕ → Bool
set_too_high r = when_some r too_high false

-- a rate over 65,536
abbrev pub bad_rates : Rates → Bool
bad_rates r =
    set_too_high r.opens || (set_too_high r.reads || (when_some r.writes (λ w. too_high w.failure || too_high w.retention) false
    || (set_too_high r.syncs || (when_some r.resizes (λ z. too_high z.failure || too_high z.partial) false || (set_too_high r.removes || set_too_high r.scans)))))

-- configure sets all rates
abbrev pub configure_step : Faulty → Rates → Outcome Faulty Done
configure_step b r =
    turned (cond (bad_rates r) (Some BadRate) None) b []
    (done (Ok tt) [] 0 (record { store = b.store; words = b.words; log = b.log; rates = r; sizes = b.sizes; tickets = b.tickets; issued = b.issued }))

-- a crash empties the log and replays it
abbrev pub crash_step : Faulty → Outcome Faulty Done
crash_step b =
    let end = replayed b.log b.store.volume b.words in
    done (Ok tt) [] end.1 (changed b (with_volume b.store end.0) [] b.sizes)

-- a restart ends handles, tickets and the log; rates, source, files and the counts stay
abbrev pub restart_step : Faulty → Outcome Faulty Done
restart_step b =
    done (Ok tt) [] 0 (record { store = restarted b.store; words = b.words; log = []; rates = b.rates; sizes = []; tickets = []; issued = b.issued })
