-- The live half: what calls on open handles answer and leave. Offsets count from the end of the header.
use Rattle.std.specs.Prelude.{ℕ, ◌+◌, ◌^◌, Bool, cond, ◌||◌, List, [], ◌∷◌, ◌++◌, length, take, drop, Some, None, Ok, Err, Option, ◌==◌, nat_le, nat_lt}
use Rattle.std.specs.Option.{option_map}
use Rattle.fault.specs.declared.Fault.{Fault}
use Rattle.fault.specs.declared.Fault.TheVariants.{NoHandle, TooLong, ReadOverflow, NoSpace, InsufficientLength}
use Rattle.content.specs.Bytes.{limit, written, cut}
use Rattle.std.specs.List.{find}
use Rattle.store.specs.Tables.{amended, without}
use Rattle.store.specs.declared.handle.Handle.{Handle}
use Rattle.store.specs.Meaning.{with_live, when_some, when_ok, Done}

-- the most handles held at once, and the most ever issued
abbrev pub handle_limit : ℕ
handle_limit = 8

-- the most handles ever issued
abbrev pub issue_limit : ℕ
issue_limit = 1000000

-- the most bytes of one write
abbrev pub write_limit : ℕ
write_limit = 256

-- a handle of a number
abbrev pub numbered : ℕ → Handle → Bool
numbered n h = h.number == n

-- the handle with a number
abbrev pub handle_at : List Handle → ℕ → Option Handle
handle_at hs n = find (numbered n) hs

-- no room for one more handle, or no number left
abbrev pub handles_full : List Handle → ℕ → Bool
handles_full hs issued = nat_le handle_limit (length hs) || nat_le issue_limit issued

-- one more handle, with the next number
abbrev pub handles_with : List Handle → ℕ → ℕ → ℕ → List ℕ → List Handle
handles_with hs number generation header live = hs ++ (record { number = number; generation = generation; header = header; live = live } ∷ [])

-- what generation a handle has
abbrev pub generation_of : List Handle → ℕ → Option ℕ
generation_of hs n = option_map (λ h. h.generation) (handle_at hs n)

-- NoHandle for a handle that is not held
abbrev pub held_fault : List Handle → ℕ → Option Fault
held_fault hs n = when_some (handle_at hs n) (λ h. None) (Some NoHandle)

-- NoSpace where a change ends past the limit, header counted
abbrev pub end_met : ℕ → Option Fault
end_met end = cond (nat_le end limit) None (Some NoSpace)

-- what a write of a length at an offset of a handle meets: TooLong, then NoSpace
abbrev pub write_met : Handle → ℕ → ℕ → Option Fault
write_met h offset len = cond (nat_lt write_limit len) (Some TooLong) (end_met (offset + len + h.header))

-- what a write on a handle's number meets: NoHandle, then what the handle meets
abbrev pub write_fault : List Handle → ℕ → ℕ → ℕ → Option Fault
write_fault hs n offset len = when_some (handle_at hs n) (λ h. write_met h offset len) (Some NoHandle)

-- what a resize of a handle to a length meets
abbrev pub resize_met : Handle → ℕ → Option Fault
resize_met h len = end_met (len + h.header)

-- what a resize on a handle's number meets: NoHandle, then what the handle meets
abbrev pub resize_fault : List Handle → ℕ → ℕ → Option Fault
resize_fault hs n len = when_some (handle_at hs n) (λ h. resize_met h len) (Some NoHandle)

-- a read of a length at an offset: ReadOverflow where its end, header counted, passes 2^64 - 1, then InsufficientLength
-- where it passes the live bytes
abbrev pub read_of : Handle → ℕ → ℕ → Done
read_of h offset len =
    cond (nat_lt (offset + len + h.header) (2 ^ 64))
    (cond (nat_le (offset + len + h.header) (length h.live)) (Ok tt) (Err InsufficientLength))
    (Err ReadOverflow)

-- what a read on a handle's number answers: NoHandle, then what the handle answers
abbrev pub read_answer : List Handle → ℕ → ℕ → ℕ → Done
read_answer hs n offset len = when_some (handle_at hs n) (λ h. read_of h offset len) (Err NoHandle)

-- the live bytes from an offset on
abbrev pub read_bytes : Handle → ℕ → ℕ → List ℕ
read_bytes h offset len = take len (drop (h.header + offset) h.live)

-- what a read leaves in its area, whose length is the read's
abbrev pub read_area : List Handle → ℕ → ℕ → List ℕ → List ℕ
read_area hs n offset area =
    when_some (handle_at hs n) (λ h. when_ok (read_of h offset (length area)) (read_bytes h offset (length area)) area) area

-- a plain write: the live bytes are zero-filled up to its end where they are shorter, and take its bytes
abbrev pub live_written : List Handle → ℕ → ℕ → List ℕ → List Handle
live_written hs n offset bs = amended (numbered n) (λ h. with_live h (written h.live (h.header + offset) bs)) hs

-- a resize: the live bytes are cut or zero-filled
abbrev pub live_resized : List Handle → ℕ → ℕ → List Handle
live_resized hs n len = amended (numbered n) (λ h. with_live h (cut (h.header + len) h.live)) hs

-- a close ends a handle
abbrev pub closed : List Handle → ℕ → List Handle
closed hs n = without (numbered n) hs
