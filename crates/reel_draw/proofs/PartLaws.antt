-- A part of the file that is lent by its place and its end is the definition's; one that the reader finds lies in the file, and no
-- coordinate of its records is out of range.
use Prim.Native.Nat.{ℕ, suc, ◌+◌, ◌-◌, ◌*◌, ◌≤◌, ◌<◌, min}
use mathlib.Core.Path.{◌≡◌, refl, ap, ◌∙◌}
use mathlib.Core.Bool.{Bool, true, false, cond}
use mathlib.Core.List.{List}
use Rattle.std.specs.Prelude.{None, Some}
use native.Mathlib.Omega.{arith}
use lib.IntN.{ℤ, pos}
use lib.ListN.{length, take, drop, length-take, length-drop}
use lib.Seq.{get_or-take, get_or-drop}
use lib.Dec.{ltb}
use borrow.Author.Tests.{ltb-true}
use Rattle.counting.proofs.Any.{any_none}
use Rattle.refusal.specs.Refusal.{given, first_met}
use Rattle.refusal.proofs.Handing.{given_by}
use Rattle.raster.specs.declared.window.Window.{Window}
use Rattle.drawing.specs.Band.{band_counts, band_raster}
use Rattle.drawing.specs.declared.band.Band.{Band}
use Rattle.drawing.specs.declared.counts.Counts.{Counts}
use Rattle.reel.specs.Reel.{records_before, coordinates, coordinates_out, table, records}
use Rattle.reel.specs.Reading.{file_conditions, frame_part, part_of, find_answer, records_in}
use Rattle.reel.specs.RoundTrip.{frame_records}
use Rattle.reel.specs.declared.find.FramePart.{FramePart}
use Rattle.reel.proofs.Records.{in_list}
use Rattle.reel.proofs.Conditions.{Readable, readable}
use Rattle.reel.proofs.Decoded.{frame_before, frame_numbers_lem}
use Rattle.reel_draw.specs.Records.{records_figure}

-- ---- the part that is lent

module _ (file : List ℕ) (part : FramePart) where
  abbrev lent : List ℕ
  lent = take (part.place + part.len - part.place) (drop part.place file)

  pub lent_records : coordinates lent ≡ records_in file part
  lent_records =
      let size : part.place + part.len - part.place ≡ part.len = omega arith in
      ap (λ (n : ℕ). coordinates (take n (drop part.place file))) size

  pub lent_most : length lent ≤ length file
  lent_most = simp (length-take, length-drop) (omega arith)

  -- what is drawn of it is drawn of the frame's records
  pub lent_drawn : (w : Window) (b : Band) (s : List ℕ) (m : Counts) (t : List ℕ) → m ≡ band_counts (records_figure (coordinates lent)) w s b → t ≡ band_raster (records_figure (coordinates lent)) w b s
      → (m ≡ band_counts (records_figure (records_in file part)) w s b) × (t ≡ band_raster (records_figure (records_in file part)) w b s)
  lent_drawn w b s m t p q = (
    p ∙ ap (λ (l : List ℤ). band_counts (records_figure l) w s b) lent_records,
    q ∙ ap (λ (l : List ℤ). band_raster (records_figure l) w b s) lent_records,
  )

-- ---- a part that the reader finds

-- a frame's numbers are some of all
frame_in : (list : List ℤ) (numbers : List ℕ) (k : ℕ) → coordinates_out list ≡ false → coordinates_out (frame_records list numbers k) ≡ false
unfolding coordinates_out
frame_in list numbers k e =
    let n : ℕ = 4 * records_before numbers k in
    let m : ℕ = 4 * (records_before numbers (suc k) - records_before numbers k) in
    any_none (length (take m (drop n list))) _
    (λ i l.
    let h : i < min m (length list - n) = simp (length-take, length-drop) at l in
    let low : i < m = omega arith in
    rw (get_or-take m (drop n list) i (pos 0) low, get_or-drop n list i (pos 0)) (in_list list e (n + i) (omega arith)))

part_is : (numbers : List ℕ) (k : ℕ) (part : FramePart) → Some part ≡ part_of numbers k → (k < length numbers) × (part ≡ frame_part numbers k)
part_is numbers k part e = go (ltb k (length numbers)) refl e
  where
    go : (t : Bool) → ltb k (length numbers) ≡ t → Some part ≡ cond t (Some (frame_part numbers k)) None → (k < length numbers) × (part ≡ frame_part numbers k)
    go true l q = (ltb-true k (length numbers) l, cc)
    go false l q = absurd (let z : ◌≡◌ {A = ℕ} 0 1 = cc in omega arith)

module _ (file : List ℕ) (k : ℕ) (part : FramePart) (found : given (Some part) ≡ find_answer file k) where
  -- so it lies in the file, and its records can be drawn
  pub found_within : (part.place + part.len ≤ length file) × (coordinates_out (records_in file part) ≡ false) × (length file < 65537)
  found_within =
      let known = given_by (first_met (file_conditions file)) (Some part) (part_of (table file) k) found in
      let r : Readable file = (readable file).0 known.0 in
      let at = part_is (table file) k part known.1 in
      let fits = frame_before file r k at.0 in
      rw at.1 (
        omega arith,
        ap coordinates_out (frame_numbers_lem file r k at.0) ∙ frame_in (records file) (table file) k r.in_range,
        omega arith,
      )
