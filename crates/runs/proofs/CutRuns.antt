-- A run is a span of the turned window; what is left of it there has the same pixels, and its length is their number.
use Prim.Native.Nat.{ℕ, ◌+◌, ◌-◌, ◌*◌, ◌≤◌, ◌<◌, min}
use mathlib.Core.Path.{◌≡◌, refl, sym, ap, ◌∙◌}
use mathlib.Core.Logic.{◌↔◌}
use mathlib.Core.Bool.{Bool, true, ◌&&◌, and_comm}
use native.Mathlib.Omega.{arith}
use native.Mathlib.Decide.{dec_lt}
use native.Mathlib.Nat.{mul-one, mul-zero}
use lib.IntN.{ℤ, pos, ◌+ℤ◌}
use lib.Signed.{lt_z, le_z}
use borrow.Author.Tests.{lt-ltb}
use Rattle.counting.specs.Count.{any, count}
use Rattle.counting.proofs.Boolean.{bool_iff, and_both, both_and}
use Rattle.counting.proofs.Any.{any_make, any_find, any_cong}
use Rattle.counting.proofs.Counted.{count_cong, count_range}
use Rattle.coordinate.specs.Coordinate.{biased, same, along}
use Rattle.coordinate.specs.declared.axis.Axis.{Axis}
use Rattle.coordinate.specs.declared.axis.Axis.TheVariants.{X, Y}
use Rattle.coordinate.proofs.Difference.{Diff, above, below, diff_parts, diff_plus, diff_eq, diff_same, diff_le, diff_lt, same_eq}
use Rattle.coordinate.proofs.Shift.{shift_lt}
use Rattle.coordinate.proofs.Bias.{diff_biased}
use Rattle.raster.specs.Raster.{in_window}
use Rattle.raster.specs.Bits.{span}
use Rattle.raster.specs.declared.window.Window.{Window}
use Rattle.raster.proofs.Frames.{Sized, Placed}
use Rattle.runs.specs.Run.{Run, run_pixel, in_run, run_count}
use Rattle.runs.specs.Painting.{natural}
use Rattle.runs.specs.Parts.{run_of, cut_part, turned_window, long_part, short_part, piece_of}
use Rattle.runs.specs.declared.stored.Stored.{Stored}
use Rattle.runs.proofs.Bad.{Lawful}

-- ---- a run is a span

-- the coordinates from l on, one by one and as an interval
interval : (l a u v : ℤ) (n : ℕ) → any n (λ j. same (l +ℤ pos j) u && same a v) ≡ span l a n u v
interval l a u v n = bool_iff _ _ there back
  where
    from : (j : ℕ) → le_z l (l +ℤ pos j) ≡ true
    from j = (diff_le l (l +ℤ pos j) _ _ _ _ (diff_parts l) (diff_plus l _ _ j (diff_parts l))).1 (omega arith)

    there : any n (λ j. same (l +ℤ pos j) u && same a v) ≡ true → span l a n u v ≡ true
    there t =
        let r = any_find n (λ j. same (l +ℤ pos j) u && same a v) t in
        let p = and_both (same (l +ℤ pos r.0) u) (same a v) r.2 in
        let e = (same_eq (l +ℤ pos r.0) u).0 p.0 in
        both_and (le_z l u && lt_z u (l +ℤ pos n)) (same a v)
        (both_and (le_z l u) (lt_z u (l +ℤ pos n))
        (ap (le_z l) (sym e) ∙ from r.0)
        (ap (λ (z : ℤ). lt_z z (l +ℤ pos n)) (sym e) ∙ shift_lt l r.0 n ∙ lt-ltb r.0 n r.1))
        p.1

    back : span l a n u v ≡ true → any n (λ j. same (l +ℤ pos j) u && same a v) ≡ true
    back t =
        let p = and_both (le_z l u && lt_z u (l +ℤ pos n)) (same a v) t in
        let q = and_both (le_z l u) (lt_z u (l +ℤ pos n)) p.0 in
        let h = (diff_le l u _ _ _ _ (diff_parts l) (diff_parts u)).0 q.0 in
        let g = (diff_lt u (l +ℤ pos n) _ _ _ _ (diff_parts u) (diff_plus l _ _ n (diff_parts l))).0 q.1 in
        let j : ℕ = above u + below l - (above l + below u) in
        let e : l +ℤ pos j ≡ u =
        diff_eq (l +ℤ pos j) u _ _ _ _ (diff_plus l _ _ j (diff_parts l)) (diff_parts u) (omega arith) in
        any_make n (λ j. same (l +ℤ pos j) u && same a v) j (omega arith) (both_and _ _ ((same_eq (l +ℤ pos j) u).1 e) p.1)

pub run-span : (axis : Axis) (r : Run) (x y : ℤ) → in_run axis r x y ≡ span r.lowest r.across r.pixels (along axis x y) (along axis y x)
unfolding in_run
run-span X r x y = interval r.lowest r.across x y r.pixels
run-span Y r x y =
    any_cong r.pixels _ _ (λ j l. and_comm (same r.across x) (same (r.lowest +ℤ pos j) y))
    ∙ interval r.lowest r.across y x r.pixels

-- a coordinate in the n from f on, and a span, in natural numbers: all are counted from one place
module _ (f z : ℤ) (n bf bz b : ℕ) (df : Diff f bf b) (dz : Diff z bz b) where
  within : (le_z f z && lt_z z (f +ℤ pos n)) ≡ true → (bf ≤ bz) × (bz < bf + n)
  within t =
      let q = and_both (le_z f z) (lt_z z (f +ℤ pos n)) t in (
        omega (arith, (diff_le f z _ _ _ _ df dz).0 q.0),
        omega (arith, (diff_lt z (f +ℤ pos n) _ _ _ _ dz (diff_plus f _ _ n df)).0 q.1),
      )

  make_within : bf ≤ bz → bz < bf + n → (le_z f z && lt_z z (f +ℤ pos n)) ≡ true
  make_within h g =
      both_and _ _
      ((diff_le f z _ _ _ _ df dz).1 (omega arith))
      ((diff_lt z (f +ℤ pos n) _ _ _ _ dz (diff_plus f _ _ n df)).1 (omega arith))

module _ (l a u v : ℤ) (n bl ba bu bv b : ℕ) (dl : Diff l bl b) (da : Diff a ba b) (du : Diff u bu b) (dv : Diff v bv b) where
  span_says : span l a n u v ≡ true → (bl ≤ bu) × (bu < bl + n) × (ba ≡ bv)
  span_says t =
      let p = and_both (le_z l u && lt_z u (l +ℤ pos n)) (same a v) t in
      let q = within l u n bl bu b dl du p.0 in
      (q.0, q.1, omega (arith, diff_same a v _ _ _ _ da dv ((same_eq a v).0 p.1)))

  span_make : (bl ≤ bu) × (bu < bl + n) × (ba ≡ bv) → span l a n u v ≡ true
  span_make h =
      both_and _ _
      (make_within l u n bl bu b dl du h.0 h.1)
      ((same_eq a v).1 (diff_eq a v _ _ _ _ da dv (omega (arith, h.2))))

-- ---- the cut, in natural numbers

times_one : (m k : ℕ) → k ≡ 1 → m * k ≡ m
times_one m k e = ap (λ (x : ℕ). m * x) e ∙ mul-one m

times_none : (m k : ℕ) → k ≡ 0 → m * k ≡ 0
times_none m k e = ap (λ (x : ℕ). m * x) e ∙ mul-zero m

-- n from low on, cut to size from first on
abbrev part : ℕ → ℕ → ℕ → ℕ → ℕ
part low n first size = min (low + n - first) size - (low - first)

part_max : (low n first size : ℕ) → part low n first size ≤ size
part_max low n first size = omega arith

-- the same part, counted from low
part_is : (low n first size : ℕ) → min n (first + size - low) - (first - low) ≡ part low n first size
part_is low n first size = elim (dec_lt low first) [ yes p ↦ begins_before p | no p ↦ begins_after p ]
  where
    before_first : (d : ℕ) → min n (d + size) - d ≡ min (n - d) size - 0
    before_first d = omega arith

    after_first : (d : ℕ) → min n (size - d) - 0 ≡ min (d + n) size - d
    after_first d = omega arith

    begins_before : low < first → min n (first + size - low) - (first - low) ≡ part low n first size
    begins_before h =
        let d : ℕ = first - low in
        let a : first + size - low ≡ d + size = omega arith in
        let b : low + n - first ≡ n - d = omega arith in
        let e : low - first ≡ 0 = omega arith in cc (before_first d)

    begins_after : (low < first → ⊥) → min n (first + size - low) - (first - low) ≡ part low n first size
    begins_after h =
        let d : ℕ = low - first in
        let a : first + size - low ≡ size - d = omega arith in
        let b : low + n - first ≡ d + n = omega arith in
        let e : first - low ≡ 0 = omega arith in cc (after_first d)

-- the n from low on along one side, and the one at across along the other
module _ (low n first size across other others : ℕ) where
  abbrev long : ℕ
  long = part low n first size

  abbrev short : ℕ
  short = part across 1 other others

  cut_there : (u v : ℕ) → u < size → v < others → (low ≤ first + u) × (first + u < low + n) × (across ≡ other + v)
      → (first + (low - first) ≤ first + u) × (first + u < first + (low - first) + long * short) × (other + (across - other) ≡ other + v)
  cut_there u v lu lv h =
      let e : long * short ≡ long = times_one long short (omega (arith, h.2)) in
      (omega (arith, h.0), omega (arith, h.0, h.1), omega (arith, h.2))

  cut_back : (u v : ℕ) → u < size → v < others
      → (first + (low - first) ≤ first + u) × (first + u < first + (low - first) + long * short) × (other + (across - other) ≡ other + v)
      → (low ≤ first + u) × (first + u < low + n) × (across ≡ other + v)
  cut_back u v lu lv h =
      elim (dec_lt 0 short) [
        | yes p ↦
            let e : long * short ≡ long = times_one long short (omega arith) in
            (omega (arith, h.0), omega (arith, h.0, h.1), omega (arith, h.2))
        | no p ↦ let e : long * short ≡ 0 = times_none long short (omega arith) in absurd (omega (arith, h.0, h.1))
      ]

  cut_small : long * short ≤ size
  cut_small =
      elim (dec_lt 0 short) [
        | yes p ↦ rw (times_one long short (omega arith)) (part_max low n first size)
        | no p ↦ rw (times_none long short (omega arith)) (omega arith)
      ]

  cut_in : 1 ≤ long * short → (low - first + long * short ≤ size) × (across - other < others)
  cut_in h =
      elim (dec_lt 0 short) [
        | yes p ↦ let e : long * short ≡ long = times_one long short (omega arith) in (omega arith, omega arith)
        | no p ↦ let e : long * short ≡ 0 = times_none long short (omega arith) in absurd (omega arith)
      ]

  cut_count : (f : ℕ → Bool)
      → ((j : ℕ) → j < n → (f j ≡ true) ↔ (((first ≤ low + j) × (low + j < first + size)) × ((other ≤ across) × (across < other + others))))
      → count n f ≡ long * short
  cut_count f h =
      elim (dec_lt 0 short) [
        | yes p ↦
            count_range n (first - low) (min n (first + size - low)) f (omega arith) (λ j l.
            (λ t. let w = (h j l).0 t in (omega (arith, w.0.0), omega (arith, w.0.1)), λ w. (h j l).1 ((omega (arith, w.0), omega (arith, w.1)), (omega arith, omega arith))))
            ∙ part_is low n first size ∙ sym (times_one long short (omega arith))
        | no p ↦
            count_range n 0 0 f (omega arith) (λ j l.
            (λ t. let w = (h j l).0 t in absurd (omega (arith, w.1.0, w.1.1)), λ w. absurd (omega (arith, w.1))))
            ∙ sym (times_none long short (omega arith))
      ]

-- ---- the cut of a stored run

pub turned-placed : (axis : Axis) (w : Window) → Placed w → Placed (turned_window axis w)
turned-placed X w p = record { left_in = p.left_in; top_in = p.top_in; right = p.right; bottom = p.bottom }
turned-placed Y w p = record { left_in = p.top_in; top_in = p.left_in; right = p.bottom; bottom = p.right }

pub turned-sized : (axis : Axis) (w : Window) → Sized w → Sized (turned_window axis w)
turned-sized X w z =
    record { width_min = z.width_min; width_max = z.width_max; height_min = z.height_min; height_max = z.height_max }
turned-sized Y w z =
    record { width_min = z.height_min; width_max = z.height_max; height_min = z.width_min; height_max = z.width_max }

-- the run that is left of it
abbrev pub cut_run : Axis → Stored → Window → Run
cut_run axis s w =
    record {
      across = (turned_window axis w).top +ℤ pos (piece_of axis s w).across;
      lowest = (turned_window axis w).left +ℤ pos (piece_of axis s w).lowest;
      pixels = (piece_of axis s w).pixels;
    }

module _ (axis : Axis) (s : Stored) (w : Window) where
  pub pixels_small : Sized w → (long_part axis s w).pixels * (short_part axis s w).pixels ≤ 8192
  unfolding cut_part
  pixels_small z =
      let t = turned_window axis w in
      omega (arith, (turned-sized axis w z).width_max, cut_small (biased s.lowest) (natural s.pixels) (biased t.left) t.width (biased s.across) (biased t.top) t.height)

  pub pixels_in : 1 ≤ (piece_of axis s w).pixels
      → ((piece_of axis s w).lowest + (piece_of axis s w).pixels ≤ (turned_window axis w).width) × ((piece_of axis s w).across < (turned_window axis w).height)
  unfolding piece_of cut_part
  pixels_in h =
      let t = turned_window axis w in
      cut_in (biased s.lowest) (natural s.pixels) (biased t.left) t.width (biased s.across) (biased t.top) t.height h

-- a pixel of a run is in the window as it is in the turned one
turned_in : (axis : Axis) (w : Window) (r : Run) (j : ℕ)
    → in_window w (run_pixel axis r j) ≡ in_window (turned_window axis w) (run_pixel X r j)
unfolding in_window
turned_in X w r j = refl
turned_in Y w r j =
    let z : ℤ = r.lowest +ℤ pos j in
    and_comm
    (le_z w.left r.across && lt_z r.across (w.left +ℤ pos w.width))
    (le_z w.top z && lt_z z (w.top +ℤ pos w.height))

module _ (axis : Axis) (s : Stored) (w : Window) (place : Placed w) (f : Lawful s) where
  abbrev side : Window
  side = turned_window axis w

  abbrev n : ℕ
  n = natural s.pixels

  left_at : Diff side.left (biased side.left) 16384
  left_at = diff_biased side.left (turned-placed axis w place).left_in

  top_at : Diff side.top (biased side.top) 16384
  top_at = diff_biased side.top (turned-placed axis w place).top_in

  low_at : Diff s.lowest (biased s.lowest) 16384
  low_at = diff_biased s.lowest f.lowest_in

  across_at : Diff s.across (biased s.across) 16384
  across_at = diff_biased s.across f.across_in

  turned_same : (u v : ℕ) → u < side.width → v < side.height
      → span s.lowest s.across n (side.left +ℤ pos u) (side.top +ℤ pos v)
      ≡ span (cut_run axis s w).lowest (cut_run axis s w).across (piece_of axis s w).pixels (side.left +ℤ pos u) (side.top +ℤ pos v)
  unfolding piece_of cut_part
  turned_same u v lu lv =
      let x : ℤ = side.left +ℤ pos u in
      let y : ℤ = side.top +ℤ pos v in
      let r : Run = cut_run axis s w in
      let low : ℕ = biased s.lowest in
      let across : ℕ = biased s.across in
      let first : ℕ = biased side.left in
      let other : ℕ = biased side.top in
      let x-at = diff_plus side.left _ _ u left_at in
      let y-at = diff_plus side.top _ _ v top_at in
      let l-at = diff_plus side.left first 16384 (low - first) left_at in
      let a_at = diff_plus side.top other 16384 (across - other) top_at in
      bool_iff _ _
      (λ t.
      span_make r.lowest r.across x y r.pixels _ _ _ _ 16384 l-at a_at x-at y-at
      (cut_there low n first side.width across other side.height u v lu lv
      (span_says s.lowest s.across x y n _ _ _ _ 16384 low_at across_at x-at y-at t)))
      (λ t.
      span_make s.lowest s.across x y n _ _ _ _ 16384 low_at across_at x-at y-at
      (cut_back low n first side.width across other side.height u v lu lv
      (span_says r.lowest r.across x y r.pixels _ _ _ _ 16384 l-at a_at x-at y-at t)))

  -- a pixel of the run is in the window, in natural numbers
  counted_at : (j : ℕ) → (in_window side (run_pixel X (run_of s) j) ≡ true)
      ↔ (((biased side.left ≤ biased s.lowest + j) × (biased s.lowest + j < biased side.left + side.width))
      × ((biased side.top ≤ biased s.across) × (biased s.across < biased side.top + side.height)))
  unfolding in_window
  counted_at j =
      let z : ℤ = s.lowest +ℤ pos j in
      let z-at = diff_plus s.lowest _ _ j low_at in (
        λ e.
            let p = and_both (le_z side.left z && lt_z z (side.left +ℤ pos side.width)) _ e in (
              within side.left z side.width _ _ 16384 left_at z-at p.0,
              within side.top s.across side.height _ _ 16384 top_at across_at p.1,
            ),
        λ h.
            both_and _ _
            (make_within side.left z side.width _ _ 16384 left_at z-at h.0.0 h.0.1)
            (make_within side.top s.across side.height _ _ 16384 top_at across_at h.1.0 h.1.1),
      )

  -- the run's count is the length of what is left
  pub cut_counted : (piece_of axis s w).pixels ≡ run_count axis (run_of s) w
  unfolding run_count piece_of cut_part
  cut_counted =
      sym
      (count_cong n _ (λ j. in_window side (run_pixel X (run_of s) j)) (λ j l. turned_in axis w (run_of s) j)
      ∙ cut_count (biased s.lowest) n (biased side.left) side.width (biased s.across) (biased side.top) side.height _ (λ j l.
      counted_at j))

-- in the window the run has the cut run's pixels
pub cut_same : (axis : Axis) (s : Stored) (w : Window) → Placed w → Lawful s → (c r : ℕ) → c < w.width → r < w.height
    → in_run axis (run_of s) (w.left +ℤ pos c) (w.top +ℤ pos r) ≡ in_run axis (cut_run axis s w) (w.left +ℤ pos c) (w.top +ℤ pos r)
cut_same X s w place f c r lc lr =
    run-span X (run_of s) (w.left +ℤ pos c) (w.top +ℤ pos r)
    ∙ turned_same X s w place f c r lc lr
    ∙ sym (run-span X (cut_run X s w) (w.left +ℤ pos c) (w.top +ℤ pos r))
cut_same Y s w place f c r lc lr =
    run-span Y (run_of s) (w.left +ℤ pos c) (w.top +ℤ pos r)
    ∙ turned_same Y s w place f r c lr lc
    ∙ sym (run-span Y (cut_run Y s w) (w.left +ℤ pos c) (w.top +ℤ pos r))
