-- Numbers taken two at a time are those of the list's places.
use Prim.Native.Nat.{ℕ, zero, suc, ◌+◌, ◌*◌, ◌/◌, ◌<◌}
use mathlib.Core.Path.{◌≡◌, refl, ap, ap₂, ◌∙◌}
use mathlib.Core.List.{List, []}
use native.Mathlib.Omega.{arith}
use native.Mathlib.Nat.{add-zero}
use lib.ListN.{length, get_or, take, drop}
use lib.Seq.{drop-drop, get_or-take, get_or-drop}
use Rattle.std.specs.Simd.{first_chunks}
use Rattle.drawing.specs.Calls.{band_at}
use Rattle.drawing.specs.declared.band.Band.{Band}

chunk_at : (n k : ℕ) (list : List ℕ) → k < n → get_or (first_chunks 2 n list) k [] ≡ take 2 (drop (2 * k) list)
chunk_at zero k list h = absurd (omega arith)
chunk_at (suc n) zero list h = refl
chunk_at (suc n) (suc k) list h =
    let place : 2 + 2 * k ≡ 2 * suc k = omega arith in
    chunk_at n k (drop 2 list) (omega arith) ∙ ap (λ (l : List ℕ). take 2 l) (drop-drop (2 * k) 2 list ∙ ap (λ (i : ℕ). drop i list) place)

-- number j of pair k
item : (list : List ℕ) (k j : ℕ) → k < length list / 2 → j < 2
    → get_or (get_or (first_chunks 2 (length list / 2) list) k []) j 0 ≡ get_or list (2 * k + j) 0
item list k j h l =
    ap (λ (p : List ℕ). get_or p j 0) (chunk_at (length list / 2) k list h)
    ∙ get_or-take 2 (drop (2 * k) list) j 0 l
    ∙ get_or-drop (2 * k) list j 0

abbrev pub pair_at : List ℕ → ℕ → Band
pair_at list k =
    let p = get_or (first_chunks 2 (length list / 2) list) k [] in record { first = get_or p 0 0; rows = get_or p 1 0 }

pub pair_is : (list : List ℕ) (k : ℕ) → k < length list / 2 → pair_at list k ≡ band_at list k
pair_is list k h =
    ap₂ (λ (f n : ℕ). record { first = f; rows = n })
    (item list k 0 h (omega arith) ∙ ap (λ (i : ℕ). get_or list i 0) (add-zero (2 * k)))
    (item list k 1 h (omega arith))
