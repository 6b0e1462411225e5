-- What follows where a question answers no fault.
use Rattle.std.proofs.Common.{◌≡◌, ℕ, ◌+◌, ◌≤◌, cond, ltb, leb, List, Some, None, Option, sym, ap, ◌∙◌, arith}
use Rattle.std.proofs.lemmas.Bool.Decides.{nat_tests}
use Rattle.fault.specs.declared.Fault.TheVariants.{NoHandle, TooLong, NoSpace}
use Rattle.content.specs.Bytes.{limit}
use Rattle.store.specs.declared.handle.Handle.{Handle}
use Rattle.store.specs.Meaning.{when_some}
use Rattle.store.specs.Live.{handle_at, write_limit, write_fault, resize_fault}

-- what is met by a handle that is held
at_held : {A : Type 0} (o : Option Handle) (h : Handle) (a : Handle → A) (b c : A) → o ≡ Some h → when_some o a b ≡ c → a h ≡ c
at_held o h a b c e k = sym (ap (λ x. when_some x a b) e) ∙ k

short_write : (len end : ℕ) → cond (ltb write_limit len) (Some TooLong) (cond (leb end limit) None (Some NoSpace)) ≡ None → end ≤ limit
short_write len end e = grind (arith, nat_tests)

short-resize : (end : ℕ) → cond (leb end limit) None (Some NoSpace) ≡ None → end ≤ limit
short-resize end e = grind (arith, nat_tests)

-- a write that meets no fault ends within the limit
pub write-fits : (hs : List Handle) (n offset len : ℕ) (h : Handle) → handle_at hs n ≡ Some h → write_fault hs n offset len ≡ None → offset + len + h.header ≤ limit
write-fits hs n offset len h e f =
    short_write len (offset + len + h.header)
    (at_held (handle_at hs n) h (λ x. cond (ltb write_limit len) (Some TooLong) (cond (leb (offset + len + x.header) limit) None (Some NoSpace))) (Some NoHandle) None e f)

pub resize-fits : (hs : List Handle) (n len : ℕ) (h : Handle) → handle_at hs n ≡ Some h → resize_fault hs n len ≡ None → len + h.header ≤ limit
resize-fits hs n len h e f =
    short-resize (len + h.header) (at_held (handle_at hs n) h (λ x. cond (leb (len + x.header) limit) None (Some NoSpace)) (Some NoHandle) None e f)
