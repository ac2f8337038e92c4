-- Each step of cutting a text at the blanks takes the first of the words that are left.
use Rattle.std.proofs.Common.{◌≡◌, ℕ, Bool, true, false, cond, List, [], ◌∷◌, ◌++◌, eqb, Some, length, get_or, arith, ap, subst, ◌∙◌}
use denote.Ref.{Bor}
use denote.Param.Members.{Mut}
use Rattle.std.specs.Bool.{MatchBool}
use Rattle.std.specs.Fn.{Called}
use Rattle.std.specs.declared.slice.Split.{Split}
use Rattle.std.specs.List.{All, slice_split, IsFirstMatchOrLen}
use Rattle.std.specs.Slice.Iter.{split_rest, split_done, split_callee, split_steps}
use Rattle.lineruns_text.specs.Reading.{words}
use Rattle.std.proofs.lemmas.Fn.{always_returns_same}
use Rattle.std.proofs.lemmas.Grind.{common_steps}
use Rattle.std.proofs.lemmas.List.Splits.{slice_split_none, slice_split_at}

abbrev pub is_blank : ℕ → Bool
is_blank b = eqb b 32

-- the text up to the first blank, or all of it, and the words of what comes behind that blank
part : (xs x rest : List ℕ) (done : Bool) → MatchBool done (xs ≡ x) ((y : ℕ) × (xs ≡ x ++ (y ∷ rest))) → IsFirstMatchOrLen is_blank xs (length x)
    → slice_split is_blank xs ≡ x ∷ cond done [] (slice_split is_blank rest)
part xs x rest true e h = ap (slice_split is_blank) e ∙ slice_split_none is_blank x (λ k d l. subst (λ ys. is_blank (get_or ys k d) ≡ false) e (h.0 k d (omega arith) l))
part xs x rest false e h =
    let front : All (λ z. is_blank z ≡ false) x = λ k d l. let a = h.0 k d (omega arith) l in let b = e.1 in grind (arith, common_steps) in
    let hit : is_blank e.0 ≡ true = let b = e.1 in let a = h.1 (grind (arith, common_steps)) e.0 in grind (arith, common_steps) in
    ap (slice_split is_blank) e.1 ∙ slice_split_at is_blank x e.0 rest front hit

-- the words that are left
abbrev pub left : List ℕ → Bool → List (List ℕ)
left rest done = cond done [] (slice_split is_blank rest)

pub words_left : {F : Type 0} (text : List ℕ) (s : Split ℕ F) → split_rest s ≡ text → split_done s ≡ false → words text ≡ left (split_rest s) (split_done s)
unfolding words
words_left text s rest done = rw (rest, done)

-- a step takes the first of them, where the closure tests for a blank
pub one_left : {F : Type 0} (g : Mut F (Bor ℕ × Unit {0}) Bool) (s t : Split ℕ F) (x : Bor (List ℕ)) → split_steps g s (Some x) t
    → ((a : Bor ℕ × Unit {0}) (r : Bool) (f : F) → Called g (split_callee s) a r f → (r ≡ is_blank a.0.now) × (f ≡ split_callee s))
    → left (split_rest s) (split_done s) ≡ x.now ∷ left (split_rest t) (split_done t)
one_left g s t x k tests =
    ap (left (split_rest s)) k.0
    ∙ part (split_rest s) x.now (split_rest t) (split_done t) k.1 (k.2 is_blank (always_returns_same g (λ a r. r ≡ is_blank a.0.now) (split_callee s) tests)).1
