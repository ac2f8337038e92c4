-- The pixels before a number, in the order of the search, are those of the rows above and those to the left in its row.
use Prim.Native.Nat.{ℕ, zero, suc, ◌+◌, ◌*◌, ◌/◌, ◌%◌, ◌<◌}
use mathlib.Core.Path.{◌≡◌, refl, sym, ap, ap₂, ◌∙◌}
use mathlib.Core.Logic.{⊎_elim}
use mathlib.Core.Bool.{Bool, false}
use mathlib.Core.List.{List}
use Rattle.std.specs.Prelude.{Option, None, Some}
use native.Mathlib.Omega.{arith}
use native.Mathlib.Nat.{mul-zero, mod-lt, div-lt_iff_lt-mul, div-add-mod', mul-le-mul_right}
use Rattle.std.proofs.lemmas.Option.{same_Some}
use Rattle.counting.proofs.Any.{none_at}
use Rattle.counting.proofs.First.{first_none, first-at, first_below, first_holds, none_any}
use Rattle.coordinate.specs.declared.pixel.Pixel.{Pixel}
use Rattle.raster.specs.Raster.{marked}
use Rattle.raster.specs.declared.window.Window.{Window}
use Rattle.raster.proofs.Plus.{row_of, rest_of}
use Rattle.raster_read.specs.Search.{nth_pixel, placed, first_number, first_marked}
use Rattle.raster_read.specs.SearchFacts.{NoneMarked, IsFirst, frame_pixel, SearchFacts}
use Rattle.raster_read.proofs.Searching.{earlier}

-- a window that has a pixel has a width
wide : (height width k : ℕ) → k < height * width → 0 < width
wide height zero k l = absurd (let e = mul-zero height in omega (arith, e))
wide height (suc n) k l = omega arith

module _ (w : Window) (s : List ℕ) where
  -- whether the k-th pixel is marked
  abbrev at : ℕ → Bool
  at k = marked w s (k % w.width) (k / w.width)

  -- the pixel in column c and row r has a number
  at_pixel : (c r : ℕ) → c < w.width → at (r * w.width + c) ≡ marked w s c r
  at_pixel c r l = rw (rest_of w.width r c l, row_of w.width r c l) refl

  number_below : (c r : ℕ) → c < w.width → r < w.height → r * w.width + c < w.height * w.width
  number_below c r lc lr = omega (arith, mul-le-mul_right w.width lr)

  -- a number that is found is a pixel's, and none that is found is none of all
  placed_some : (o : Option ℕ) (p : Pixel) → placed w o ≡ Some p → (k : ℕ) × (o ≡ Some k) × (p ≡ nth_pixel w k)
  placed_some None p e = absurd (let z : ◌≡◌ {A = ℕ} 0 1 = cc in omega arith)
  placed_some (Some k) p e = (k, refl, sym (same_Some _ _ e))

  placed_none : (o : Option ℕ) → placed w o ≡ None → o ≡ None
  placed_none None e = refl
  placed_none (Some k) e = absurd (let z : ◌≡◌ {A = ℕ} 0 1 = cc in omega arith)

  none_there : NoneMarked w s → first_marked w s ≡ None
  unfolding first_marked
  none_there h =
      ap (placed w)
      (first_none (w.height * w.width) at
      (λ k l. let some = wide w.height w.width k l in h (k % w.width) (k / w.width) (mod-lt k some) ((div-lt_iff_lt-mul some).1 l)))

  none_only : first_marked w s ≡ None → NoneMarked w s
  unfolding first_marked
  none_only e c r lc lr =
      sym (at_pixel c r lc)
      ∙ none_at (w.height * w.width) at (none_any _ _ (placed_none (first_number w s) e)) (r * w.width + c) (number_below c r lc lr)

  -- the numbers before that of the first one
  none_before : (c r : ℕ) → IsFirst w s c r → (k : ℕ) → k < r * w.width + c → at k ≡ false
  none_before c r f k l =
      ⊎_elim
      (λ a. f.rows_above _ _ (mod-lt k (omega (arith, f.in_width))) a)
      (λ a. rw a.0 (f.left_of _ a.1))
      (earlier w.width r c k f.in_width l)

  found_there : (c r : ℕ) → IsFirst w s c r → first_marked w s ≡ Some (frame_pixel w c r)
  unfolding first_marked
  found_there c r f =
      ap (placed w)
      (first-at (w.height * w.width) at (r * w.width + c) (number_below c r f.in_width f.in_height) (at_pixel c r f.in_width ∙ f.is_marked) (none_before c r f))
      ∙ ap₂ (λ (x y : ℕ). Some (frame_pixel w x y)) (rest_of w.width r c f.in_width) (row_of w.width r c f.in_width)

  -- a first number is the first pixel's
  is_first : (k : ℕ) → first_number w s ≡ Some k → IsFirst w s (k % w.width) (k / w.width)
  is_first k e =
      let below = first_below _ _ k e in
      let some = wide w.height w.width k below in
      let holds = first_holds _ _ k e in
      let whole = div-add-mod' k w.width in record {
        in_width = mod-lt k some;
        in_height = (div-lt_iff_lt-mul some).1 below;
        is_marked = holds.0;
        rows_above = λ x y lx ly.
            sym (at_pixel x y lx) ∙ holds.1 (y * w.width + x) (omega (arith, mul-le-mul_right w.width ly, whole));
        left_of = λ x lx.
            let in_width = mod-lt k some in
            sym (at_pixel x (k / w.width) (omega (arith, lx, in_width))) ∙ holds.1 (k / w.width * w.width + x) (omega (arith, whole));
      }

  found_only : (p : Pixel) → first_marked w s ≡ Some p → (c : ℕ) × (r : ℕ) × IsFirst w s c r × (p ≡ frame_pixel w c r)
  unfolding first_marked
  found_only p e =
      let found = placed_some (first_number w s) p e in
      (found.0 % w.width, found.0 / w.width, is_first found.0 found.1, found.2)

  pub search_facts : SearchFacts w s
  search_facts = record { none_there = none_there; none_only = none_only; found_there = found_there; found_only = found_only }
