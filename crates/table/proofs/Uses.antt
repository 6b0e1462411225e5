-- Rows that are moved, added or taken out.
use Rattle.std.proofs.Common.{◌≡◌, ℕ, ◌+◌, ◌-◌, ◌<◌, ◌≤◌, List, [], ◌++◌, length, take, drop, sym, refl, ap, ◌∙◌, arith, rules, add-one, length-take-le}
use Rattle.std.specs.List.{remove}
use Rattle.std.proofs.lemmas.List.{append_assoc, append-nil, places, take_at, take_rest, drop-drop, drop_all}
use Rattle.std.proofs.lemmas.Bool.{lt-ltb, cond-true}
use borrow.Rule.Slice.PartMut.{put_mid}
use Rattle.table.specs.Tables.{retiring}

-- a row moved behind all others
pub retired : {R : Type 0} (rows zs : List R) (i : ℕ) → i < length rows
    → zs ≡ drop 1 (take (length rows - i) (drop i rows)) ++ take 1 (take (length rows - i) (drop i rows))
    → put_mid i (length rows - i) rows zs ≡ take i rows ++ (drop (i + 1) rows ++ take 1 (drop i rows))
retired rows zs i h e =
    let all : take (length rows - i) (drop i rows) ≡ drop i rows = take_rest rows i in
    let one : drop 1 (drop i rows) ≡ drop (i + 1) rows = drop-drop 1 i rows in
    let none : drop (length rows - i) (drop i rows) ≡ [] = drop-drop (length rows - i) i rows ∙ drop_all (i + (length rows - i)) rows (omega arith) in
    rw (e, all, one, none) (ap (λ ys. take i rows ++ ys) (append-nil (drop (i + 1) rows ++ take 1 (drop i rows))))

-- the first n rows without one of them, which a retirement among them has put last
pub take_retired : {R : Type 0} (rows part : List R) (n i : ℕ) → n ≤ length rows → i < n → part ≡ retiring (take n rows) i
    → take (n - 1) (part ++ drop n rows) ≡ remove (take n rows) i
take_retired rows part n i fits h e =
    let front = take i (take n rows) ++ drop (i + 1) (take n rows) in
    let last = take 1 (drop i (take n rows)) in
    let inside : i < length (take n rows) = omega (arith, length-take-le n rows fits) in
    let was : part ≡ take i (take n rows) ++ (drop (i + 1) (take n rows) ++ last) = e ∙ cond-true _ _ _ (lt-ltb i (length (take n rows)) inside) in
    let long : length front ≡ n - 1 = search (rules, places) in
    let split : part ++ drop n rows ≡ front ++ (last ++ drop n rows) =
    ap (λ ys. ys ++ drop n rows) (was ∙ sym (append_assoc (take i (take n rows)) (drop (i + 1) (take n rows)) last)) ∙ append_assoc front last (drop n rows) in
    ap (take (n - 1)) split ∙ take_at front (last ++ drop n rows) (n - 1) long ∙ rw add-one refl
