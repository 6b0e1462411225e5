-- Any calls reach a sound store.
use Rattle.std.proofs.Common.{ℕ, ◌<◌, cond, not, ◌&&◌, ◌||◌, ltb, leb, List, [], ◌∷◌, ◌++◌, length, arith}
use Rattle.std.proofs.lemmas.List.{length_push}
use Rattle.std.proofs.ByRecursion.{All-weaker, All-push}
use Rattle.std.proofs.lemmas.Bool.{leb-false, ltb-false, or_parts}
use Rattle.name.specs.Names.{name_limit, is_partition}
use Rattle.store.specs.declared.handle.Handle.{Handle}
use Rattle.store.specs.Meaning.{Disk}
use Rattle.store.specs.Live.{handle_limit, issue_limit, handles_full}
use Rattle.store.specs.Durable.{file_stands, partition_stands, partition_limit, file_limit, header_limit, name_too_long, open_too_long, crowded, opened_file}
use Rattle.store.specs.Whole.{opened}
use Rattle.reached.specs.Calls.{Call, Reset, Open, Write, Resize, Sync, Close, Remove, RemovePartition, CrashWrite, CrashResize, Restart, after, after_all}
use Rattle.reached.specs.Sound.{Sound, StoresAreSound}
use Rattle.reached.proofs.Lists.{distinct_push}
use Rattle.reached.proofs.Keeps.{crash-write-sound, crash-resize-sound}
use Rattle.reached.proofs.Steps.{write-sound, resize-sound, sync-sound, close-sound, restart-sound, empty-sound, remove-sound, remove-partition-sound}
use Rattle.reached.proofs.Makes.{chosen, partition-made, file-made}

pub open-sound : (m : Disk) (p n header : List ℕ) → Sound m → Sound (opened m p n header)
open-sound m p n header s =
    chosen (open_too_long p n header) (handles_full m.handles m.issued) (crowded m.volume p n) (is_partition p) _ _ m Sound
    (λ long full crowd valid.
    let v = m.volume in
    let names = or_parts (name_too_long p) (name_too_long n || ltb header_limit (length header)) long in
    let rest = or_parts (name_too_long n) (ltb header_limit (length header)) names.1 in
    let table = or_parts (leb handle_limit (length m.handles)) (leb issue_limit m.issued) full in
    let free : length m.handles < handle_limit = leb-false handle_limit (length m.handles) table.0 in
    let few : m.issued < issue_limit = leb-false issue_limit m.issued table.1 in
    let rooms = or_parts (not (partition_stands v p) && leb partition_limit (length v.partitions)) (not (file_stands v p n) && leb file_limit (length v.files)) crowd in
    let made = partition-made v m.generations p s.files valid rooms.0 in
    let ps = cond (partition_stands v p) v.partitions (v.partitions ++ (p ∷ [])) in
    let held = file-made (record { partitions = ps; files = v.files }) m.generations p n header made.sound made.there
    (ltb-false name_limit (length n) rest.0) (ltb-false header_limit (length header) rest.1) rooms.1 m.handles m.issued s.handles s.headers in
    let f = opened_file v p n header m.generations in
    let h : Handle = record { number = m.issued; generation = f.generation; header = f.header; live = f.durable } in
    let count = length_push m.handles h in
    record {
      files = held.sound;
      handles = record {
        few_handles = omega arith;
        numbers_issued = All-push _ m.handles h (All-weaker _ _ (λ x q. omega arith) m.handles s.handles.numbers_issued) (omega arith);
        numbers_distinct = distinct_push (λ (x : Handle). x.number) m.handles h (All-weaker _ _ (λ x q d. omega arith) m.handles s.handles.numbers_issued) s.handles.numbers_distinct;
        generations_issued = All-push _ m.handles h (All-weaker _ _ (λ x q. omega (arith, held.more)) m.handles s.handles.generations_issued) held.issued-file;
        handles_sized = All-push _ m.handles h s.handles.handles_sized held.sized;
      };
      headers = All-push _ m.handles h held.old held.new;
      few_generations = omega (arith, held.most, s.few_generations);
      few_issued = omega arith;
    })
    s

call-sound : (m : Disk) (c : Call) → Sound m → Sound (after m c)
call-sound m Reset s = empty-sound
call-sound m (Open p n header) s = open-sound m p n header s
call-sound m (Write h offset bs sync) s = write-sound m h offset bs sync s
call-sound m (Resize h len) s = resize-sound m h len s
call-sound m (Sync h) s = sync-sound m h s
call-sound m (Close h) s = close-sound m h s
call-sound m (Remove p n) s = remove-sound m p n s
call-sound m (RemovePartition p) s = remove-partition-sound m p s
call-sound m (CrashWrite g offset os) s = crash-write-sound m g offset os s
call-sound m (CrashResize g len) s = crash-resize-sound m g len s
call-sound m Restart s = restart-sound m s

calls-sound : (cs : List Call) (m : Disk) → Sound m → Sound (after_all m cs)
calls-sound [] m s = s
calls-sound (c ∷ cs) m s = calls-sound cs (after m c) (call-sound m c s)

pub sound : StoresAreSound
sound cs = calls-sound cs _ empty-sound
