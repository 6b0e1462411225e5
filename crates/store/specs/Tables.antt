-- Lists as tables: the first row that passes a test is changed, or goes.
use Rattle.std.specs.Prelude.{Bool, cond, List, [], ◌∷◌}

-- the first row that passes is changed
abbrev pub amended : {A : Type 0} → (A → Bool) → (A → A) → List A → List A
amended p f [] = []
amended p f (x ∷ xs) = cond (p x) (f x ∷ xs) (x ∷ amended p f xs)

-- the first row that passes is gone, and the others keep their order
abbrev pub without : {A : Type 0} → (A → Bool) → List A → List A
without p [] = []
without p (x ∷ xs) = cond (p x) xs (x ∷ without p xs)
