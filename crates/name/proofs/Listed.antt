-- A listing as it is written into an area.
use Rattle.std.proofs.Common.{◌≡◌, ℕ, ◌+◌, ◌*◌, ◌<◌, ◌≤◌, List, [], ◌∷◌, ◌++◌, length, get_or, take, drop, sym, refl, ap, ◌∙◌, arith}
use Rattle.std.proofs.lemmas.List.{append_assoc, take_at, take_more, flat_map_more, length-append, take_all}
use Rattle.std.proofs.lemmas.Slice.{drop-append-drop}
use Rattle.name.specs.Listings.{listing, first}

-- a name as it stands in a listing
abbrev pub entry : List ℕ → List ℕ
entry n = length n ∷ n

listing-more : (ns : List (List ℕ)) (i : ℕ) (n : List ℕ) → i < length ns → n ≡ get_or ns i n → listing (take (i + 1) ns) ≡ listing (take i ns) ++ entry n
listing-more ns i n h is =
    ap listing (take_more ns i n h ∙ ap (λ x. take i ns ++ (x ∷ [])) (sym is)) ∙ sym (flat_map_more entry [] (take i ns) n)

-- one more stretch behind those that stand first in an area
pub first_more : (bs e area was new : List ℕ) (at : ℕ) → at ≡ length bs → was ≡ first bs area → new ≡ take at was ++ (e ++ drop (at + length e) was) → new ≡ first (bs ++ e) area
first_more bs e area was new at n w h =
    let t : take at was ≡ bs = ap (take at) w ∙ take_at bs (drop (length bs) area) at (sym n) in
    let d : drop (at + length e) was ≡ drop (at + length e) area =
    ap (drop (at + length e)) w ∙ drop-append-drop (length bs) area bs (at + length e) (omega arith) refl in
    let l : length (bs ++ e) ≡ at + length e = length-append bs e ∙ ap (λ k. k + length e) (sym n) in
    h ∙ rw (t, d, l) (sym (append_assoc bs e (drop (at + length e) area)))

-- the first i names stand in an area
pub record Listed (ns : List (List ℕ)) (i : ℕ) (area now : List ℕ) (at : ℕ) : Type 0 where
  pub behind : at ≡ length (listing (take i ns))
  pub written : now ≡ first (listing (take i ns)) area
  pub room : at ≤ 17 * i

pub listed-more : (ns : List (List ℕ)) (i : ℕ) (n area now : List ℕ) (at : ℕ) → Listed ns i area now at → i < length ns → n ≡ get_or ns i n
    → (end : ℕ) (new : List ℕ) → end ≡ at + length (entry n) → end ≤ at + 17 → new ≡ take at now ++ (entry n ++ drop end now) → Listed ns (i + 1) area new end
listed-more ns i n area now at l h is end new e w s =
    let more = listing-more ns i n h is in
    record {
      behind = e ∙ ap (λ k. k + length (entry n)) l.behind ∙ sym (ap length more ∙ length-append (listing (take i ns)) (entry n));
      written = first_more (listing (take i ns)) (entry n) area now new at l.behind l.written (s ∙ ap (λ k. take at now ++ (entry n ++ drop k now)) e) ∙ ap (λ bs. first bs area) (sym more);
      room = omega (arith, l.room);
    }

pub listed-all : (ns : List (List ℕ)) (i : ℕ) (area now : List ℕ) (at : ℕ) → length ns ≤ i → Listed ns i area now at → (at ≡ length (listing ns)) × (now ≡ first (listing ns) area)
listed-all ns i area now at h l =
    let all : take i ns ≡ ns = take_all i ns h in
    (l.behind ∙ ap (λ xs. length (listing xs)) all, l.written ∙ ap (λ xs. first (listing xs) area) all)
