-- The durable half: what calls on partitions and files answer and leave.
use Rattle.std.specs.Prelude.{ℕ, ◌+◌, Bool, cond, not, ◌&&◌, ◌||◌, List, [], ◌∷◌, ◌++◌, map, length, is_some, Some, None, Ok, Err, filter, Option, Result, ◌==◌, nat_le, nat_lt}
use Rattle.std.specs.Option.{option_map}
use Rattle.std.specs.Str.{bytes_eq}
use Rattle.fault.specs.declared.Fault.{Fault}
use Rattle.fault.specs.declared.Fault.TheVariants.{TooLong, ShortArea, TableFull, BadPartition, PartitionMissing, BlobMissing}
use Rattle.content.specs.Bytes.{limit, written, cut, within}
use Rattle.content.specs.Patches.{Patch, lay}
use Rattle.name.specs.Names.{name_limit, is_partition}
use Rattle.name.specs.Listings.{listing, sorted, scan_area, first}
use Rattle.std.specs.List.{find}
use Rattle.store.specs.Tables.{amended, without}
use Rattle.store.specs.declared.opening.Opening.{Opening}
use Rattle.store.specs.declared.file.File.{File}
use Rattle.store.specs.Meaning.{Volume, with_durable, with_files, when_some, refused, when_ok, Done}

-- the most partitions and the most files of a store, and the most bytes of a header
abbrev pub partition_limit : ℕ
partition_limit = 4

-- the most files
abbrev pub file_limit : ℕ
file_limit = 8

-- the most bytes of a header
abbrev pub header_limit : ℕ
header_limit = 64

-- a file of a partition and a name
abbrev pub named : List ℕ → List ℕ → File → Bool
named p n f = bytes_eq f.partition p && bytes_eq f.name n

-- a file of a partition
abbrev pub in_partition : List ℕ → File → Bool
in_partition p f = bytes_eq f.partition p

-- a file of a generation
abbrev pub generated : ℕ → File → Bool
generated g f = f.generation == g

-- the file of a name
abbrev pub file_at : Volume → List ℕ → List ℕ → Option File
file_at v p n = find (named p n) v.files

-- the file of a generation
abbrev pub file_of : Volume → ℕ → Option File
file_of v g = find (generated g) v.files

-- a partition stands
abbrev pub partition_stands : Volume → List ℕ → Bool
partition_stands v p = is_some (find (λ q. bytes_eq q p) v.partitions)

-- a file of the name stands
abbrev pub file_stands : Volume → List ℕ → List ℕ → Bool
file_stands v p n = is_some (file_at v p n)

-- a partition or a name over 16 bytes
abbrev pub name_too_long : List ℕ → Bool
name_too_long n = nat_lt name_limit (length n)

-- no room for a partition or a file that is absent
abbrev pub crowded : Volume → List ℕ → List ℕ → Bool
crowded v p n =
    (not (partition_stands v p) && nat_le partition_limit (length v.partitions))
    || (not (file_stands v p n) && nat_le file_limit (length v.files))

-- a partition, a name or a header that is too long
abbrev pub open_too_long : List ℕ → List ℕ → List ℕ → Bool
open_too_long p n header = name_too_long p || (name_too_long n || nat_lt header_limit (length header))

-- what the durable half of an open meets: TooLong, then TableFull
abbrev pub place_fault : Volume → List ℕ → List ℕ → List ℕ → Option Fault
place_fault v p n header = cond (open_too_long p n header) (Some TooLong) (cond (crowded v p n) (Some TableFull) None)

-- the file that an open finds or makes: a new one has the next generation and the header as its bytes
abbrev pub new_file : List ℕ → List ℕ → List ℕ → ℕ → File
new_file p n header g = record { partition = p; name = n; generation = g; header = length header; durable = header }

-- the standing file, or a new one
abbrev pub opened_file : Volume → List ℕ → List ℕ → List ℕ → ℕ → File
opened_file v p n header g = when_some (file_at v p n) (λ f. f) (new_file p n header g)

-- a missing partition and a missing file are made
abbrev pub opened_volume : Volume → List ℕ → List ℕ → List ℕ → ℕ → Volume
opened_volume v p n header g = record {
  partitions = cond (partition_stands v p) v.partitions (v.partitions ++ (p ∷ []));
  files = cond (file_stands v p n) v.files (v.files ++ (new_file p n header g ∷ []));
}

-- what a handle takes from the file that it is opened on
abbrev pub opening_of : File → Opening
opening_of f = record { generation = f.generation; header = f.header; live = f.durable }

-- what the durable half of an open answers: BadPartition, or what a handle takes from the file
abbrev pub place_answer : Volume → List ℕ → List ℕ → List ℕ → ℕ → Result Opening Fault
place_answer v p n header g =
    refused (place_fault v p n header) (cond (is_partition p) (Ok (opening_of (opened_file v p n header g))) (Err BadPartition))

-- BadPartition, then PartitionMissing, and else this answer
abbrev pub in_standing : {A : Type 0} → Volume → List ℕ → Result A Fault → Result A Fault
in_standing v p r = cond (is_partition p) (cond (partition_stands v p) r (Err PartitionMissing)) (Err BadPartition)

-- after these BlobMissing, and else what is made of the file
abbrev pub of_file : {A : Type 0} → Volume → List ℕ → List ℕ → (File → A) → Result A Fault
of_file v p n a = in_standing v p (when_some (file_at v p n) (λ f. Ok (a f)) (Err BlobMissing))

-- a removal of a file, whose partition stays: TooLong first
abbrev pub remove_fault : List ℕ → List ℕ → Option Fault
remove_fault p n = cond (name_too_long p || name_too_long n) (Some TooLong) None

-- TooLong, then BadPartition, PartitionMissing, BlobMissing, in this order, or done
abbrev pub remove_answer : Volume → List ℕ → List ℕ → Done
remove_answer v p n = refused (remove_fault p n) (of_file v p n (λ f. tt))

-- the file goes
abbrev pub removed : Volume → List ℕ → List ℕ → Volume
removed v p n = when_ok (remove_answer v p n) (with_files v (without (named p n) v.files)) v

-- a removal of a partition with its files: TooLong first
abbrev pub remove_partition_fault : List ℕ → Option Fault
remove_partition_fault p = cond (name_too_long p) (Some TooLong) None

-- TooLong, then BadPartition, PartitionMissing, or done
abbrev pub remove_partition_answer : Volume → List ℕ → Done
remove_partition_answer v p = refused (remove_partition_fault p) (in_standing v p (Ok tt))

-- the partition goes with its files
abbrev pub removed_partition : Volume → List ℕ → Volume
removed_partition v p = when_ok (remove_partition_answer v p)
    (record { partitions = without (λ q. bytes_eq q p) v.partitions; files = filter (λ f. not (in_partition p f)) v.files }) v

-- which generations a removal takes
abbrev pub generation_at : Volume → List ℕ → List ℕ → Option ℕ
generation_at v p n = option_map (λ f. f.generation) (file_at v p n)

-- of a partition: of all its files
abbrev pub generations_in : Volume → List ℕ → List ℕ
generations_in v p = map (λ f. f.generation) (filter (in_partition p) v.files)

-- a scan lists the names of a partition's files in ascending order: TooLong first, then ShortArea
abbrev pub scan_fault : List ℕ → ℕ → Option Fault
scan_fault p area = cond (name_too_long p) (Some TooLong) (cond (nat_lt area scan_area) (Some ShortArea) None)

-- the bytes that a scan lists
abbrev pub scanned : Volume → List ℕ → List ℕ
scanned v p = listing (sorted (map (λ f. f.name) (filter (in_partition p) v.files)))

-- after its refusals BadPartition, PartitionMissing, or how many bytes
abbrev pub scan_answer : Volume → List ℕ → ℕ → Result ℕ Fault
scan_answer v p area = refused (scan_fault p area) (in_standing v p (Ok (length (scanned v p))))

-- the area with the list in front
abbrev pub scan_leaves : Volume → List ℕ → List ℕ → List ℕ
scan_leaves v p area = when_ok (scan_answer v p (length area)) (first (scanned v p) area) area

-- a look gives a file's durable bytes, header included: TooLong first, then ShortArea, since its area must hold any file
abbrev pub look_fault : List ℕ → List ℕ → ℕ → Option Fault
look_fault p n area = cond (name_too_long p || name_too_long n) (Some TooLong) (cond (nat_lt area limit) (Some ShortArea) None)

-- after its refusals BadPartition, PartitionMissing, BlobMissing, or how many bytes
abbrev pub look_answer : Volume → List ℕ → List ℕ → ℕ → Result ℕ Fault
look_answer v p n area = refused (look_fault p n area) (of_file v p n (λ f. length f.durable))

-- the durable bytes of a file
abbrev pub looked : Volume → List ℕ → List ℕ → List ℕ
looked v p n = when_some (file_at v p n) (λ f. f.durable) []

-- the area with the bytes in front
abbrev pub look_leaves : Volume → List ℕ → List ℕ → List ℕ → List ℕ
look_leaves v p n area = when_ok (look_answer v p n (length area)) (first (looked v p n) area) area

-- BlobMissing if no file has the generation
abbrev pub keep_answer : Volume → ℕ → Done
keep_answer v g = when_some (file_of v g) (λ f. Ok tt) (Err BlobMissing)

-- bytes at a place of the durable bytes of a generation's file
abbrev pub durable_written : Volume → ℕ → ℕ → List ℕ → Volume
durable_written v g at bs = with_files v (amended (generated g) (λ f. with_durable f (written f.durable at bs)) v.files)

-- other durable bytes for a generation's file
abbrev pub durable_replaced : Volume → ℕ → List ℕ → Volume
durable_replaced v g bs = with_files v (amended (generated g) (λ f. with_durable f bs) v.files)

-- a file with the bytes of a patch at an offset, or the same file where the patch ends past the limit
abbrev pub file_laid : File → ℕ → Patch → File
file_laid f offset os = with_durable f (within (f.header + offset + length os) (lay f.durable (f.header + offset) os) f.durable)

-- what a crash keeps of a write
abbrev pub crash_written : Volume → ℕ → ℕ → Patch → Volume
crash_written v g offset os = with_files v (amended (generated g) (λ f. file_laid f offset os) v.files)

-- a file cut or zero-filled to a length behind its header, or the same file where that is past the limit
abbrev pub file_cut : File → ℕ → File
file_cut f len = with_durable f (within (f.header + len) (cut (f.header + len) f.durable) f.durable)

-- what a crash keeps of a resize
abbrev pub crash_resized : Volume → ℕ → ℕ → Volume
crash_resized v g len = with_files v (amended (generated g) (λ f. file_cut f len) v.files)
