-- What the first files that pass give, one file after another.
use Rattle.std.proofs.Common.{◌≡◌, ℕ, ◌+◌, ◌<◌, Bool, true, false, cond, List, [], ◌∷◌, ◌++◌, map, length, get_or, take, filter, refl, ap, ◌∙◌}
use Rattle.std.proofs.lemmas.List.{append-nil, map-append}
use Rattle.std.proofs.lemmas.List.Elements.{filter_more}
use Rattle.std.proofs.lemmas.List.Sums.{fold-append}
use Rattle.name.specs.declared.names.Name.{Name}
use Rattle.name.specs.Listings.{placed, sorted}

both-ways : {A B : Type 0} (f : A → B) (ys : List A) (x : A) (t : Bool) → map f (ys ++ cond t (x ∷ []) []) ≡ cond t (map f ys ++ (f x ∷ [])) (map f ys)
both-ways f ys x true = map-append f ys (x ∷ [])
both-ways f ys x false = ap (map f) (append-nil ys)

-- the file at a place gives one more, if it passes
pub kept_row : {A B : Type 0} (f : A → B) (p : A → Bool) (xs : List A) (i : ℕ) (x : A) → i < length xs → x ≡ get_or xs i x
    → map f (filter p (take (i + 1) xs)) ≡ cond (p x) (map f (filter p (take i xs)) ++ (f x ∷ [])) (map f (filter p (take i xs)))
kept_row f p xs i x h is = ap (map f) (filter_more p xs i x h ∙ rw (← is) refl) ∙ both-ways f (filter p (take i xs)) x (p x)

-- one name more is placed among those before it
sorted-more : (ns : List (List ℕ)) (n : List ℕ) → sorted (ns ++ (n ∷ [])) ≡ placed n (sorted ns)
sorted-more ns n = fold-append (λ ks m. placed m ks) [] ns (n ∷ [])

-- and takes its place among those before it
pub sorted_row : {A : Type 0} (f : A → Name) (p : A → Bool) (xs : List A) (i : ℕ) (x : A) → i < length xs → x ≡ get_or xs i x
    → sorted (map f (filter p (take (i + 1) xs))) ≡ cond (p x) (placed (f x) (sorted (map f (filter p (take i xs))))) (sorted (map f (filter p (take i xs))))
sorted_row f p xs i x h is = ap sorted (kept_row f p xs i x h is) ∙ go (p x)
  where
    go : (t : Bool) → sorted (cond t (map f (filter p (take i xs)) ++ (f x ∷ [])) (map f (filter p (take i xs))))
        ≡ cond t (placed (f x) (sorted (map f (filter p (take i xs))))) (sorted (map f (filter p (take i xs))))
    go true = sorted-more (map f (filter p (take i xs))) (f x)
    go false = refl
