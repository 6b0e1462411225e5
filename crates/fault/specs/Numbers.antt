-- Each fault's number, the layer that it comes from, and its detail if it has one.
-- Layers: 1 register, 2 injection and log, 3 store.
use Rattle.std.specs.Prelude.{ℕ, Some, None, Option}
use Rattle.fault.specs.declared.Op.{Op}
use Rattle.fault.specs.declared.Op.TheVariants.{Open, Read, Write, Sync, Resize, Remove, Scan}
use Rattle.fault.specs.declared.Layer.{Layer}
use Rattle.fault.specs.declared.Layer.TheVariants.{Register, Injection, Store}
use Rattle.fault.specs.declared.Fault.{Fault}
use Rattle.fault.specs.declared.Fault.TheVariants.{NoHandle, NoTicket, TooLong, WriteOverflow, ReadOverflow, BadRate, ShortArea, NoSpace, TableFull, TicketsFull, LogFull, Injected, BadPartition, PartitionMissing, BlobMissing, AlreadyOpen, InsufficientLength}

-- which operation an injected fault struck
abbrev pub operation : Op → ℕ
operation Open = 1
operation Read = 2
operation Write = 3
operation Sync = 4
operation Resize = 5
operation Remove = 6
operation Scan = 7

-- the number of each fault
abbrev pub number : Fault → ℕ
number NoHandle = 1
number NoTicket = 1
number TooLong = 2
number WriteOverflow = 3
number ReadOverflow = 3
number BadRate = 4
number ShortArea = 5
number NoSpace = 6
number TableFull = 7
number TicketsFull = 7
number LogFull = 8
number (Injected op) = 9
number BadPartition = 10
number PartitionMissing = 11
number BlobMissing = 12
number AlreadyOpen = 13
number InsufficientLength = 14

-- the number of each layer: 1 register, 2 injection and log, 3 store
abbrev pub layer_number : Layer → ℕ
layer_number Register = 1
layer_number Injection = 2
layer_number Store = 3

-- the layer of each fault
abbrev pub layer : Fault → Layer
layer NoHandle = Store
layer NoTicket = Injection
layer TooLong = Store
layer WriteOverflow = Injection
layer ReadOverflow = Store
layer BadRate = Injection
layer ShortArea = Store
layer NoSpace = Store
layer TableFull = Store
layer TicketsFull = Injection
layer LogFull = Injection
layer (Injected op) = Injection
layer BadPartition = Store
layer PartitionMissing = Store
layer BlobMissing = Store
layer AlreadyOpen = Register
layer InsufficientLength = Store

-- the detail of an injected fault: the number of its operation; no other fault has one
abbrev pub detail : Fault → Option ℕ
detail NoHandle = None
detail NoTicket = None
detail TooLong = None
detail WriteOverflow = None
detail ReadOverflow = None
detail BadRate = None
detail ShortArea = None
detail NoSpace = None
detail TableFull = None
detail TicketsFull = None
detail LogFull = None
detail (Injected op) = Some (operation op)
detail BadPartition = None
detail PartitionMissing = None
detail BlobMissing = None
detail AlreadyOpen = None
detail InsufficientLength = None
