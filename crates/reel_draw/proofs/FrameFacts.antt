-- What the reader finds in an accepted file is in range; what it finds in a written file is what the list has.
use Prim.Native.Nat.{ℕ, zero, suc, ◌<◌}
use mathlib.Core.Path.{◌≡◌, refl, sym, ap, ◌∙◌}
use mathlib.Core.List.{List, [], ◌∷◌}
use Rattle.std.specs.Prelude.{Option, None, Some}
use native.Mathlib.Nat.{add-zero}
use lib.IntN.{ℤ}
use lib.ListN.{length}
use borrow.Author.Tests.{lt-ltb}
use Rattle.refusal.specs.Refusal.{given, answer, unless_refused, first_met}
use Rattle.refusal.proofs.Conditions.{append_none, append_clear}
use Rattle.raster.specs.Window.{frame_conditions}
use Rattle.raster.specs.Fresh.{marked_count}
use Rattle.raster.specs.declared.window.Window.{Window}
use Rattle.drawing.specs.Counts.{Adds}
use Rattle.drawing.specs.Band.{band_out, rows_conditions}
use Rattle.drawing.specs.declared.band.Band.{Band}
use Rattle.raster.proofs.Frames.{Shaped, frame, frame_numbered}
use Rattle.raster.proofs.Fresh.{marked-plus}
use Rattle.reel.specs.Reel.{encoded, table}
use Rattle.reel.specs.Reading.{file_conditions, frame_part, part_of, find_answer, records_in}
use Rattle.reel.specs.Writing.{write_conditions}
use Rattle.reel.specs.RoundTrip.{Written, frame_records}
use Rattle.reel.specs.declared.find.FramePart.{FramePart}
use Rattle.reel.proofs.RoundTrip.{written}
use Rattle.reel_draw.specs.Drawing.{frame_band_conditions, part_counts, part_raster}
use Rattle.reel_draw.specs.FrameFacts.{NeverOne, FrameAdds, fresh_of_frame, DrawnAsWritten}
use Rattle.reel_draw.proofs.RecordLaws.{record_in}
use Rattle.reel_draw.proofs.PartLaws.{found_within}
use Rattle.reel_draw.proofs.FrameLaws.{rows_numbered}

-- an accepted file has the part of each frame below their number
part-found : (file : List ℕ) (k : ℕ) → first_met (file_conditions file) ≡ 0 → k < length (table file)
    → given (Some (frame_part (table file) k)) ≡ find_answer file k
part-found file k e l = rw (e, lt-ltb k (length (table file)) l)

pub never_one : (file : List ℕ) → first_met (file_conditions file) ≡ 0 → NeverOne file
never_one file e k j l h =
    let part : FramePart = frame_part (table file) k in
    record_in (records_in file part) (found_within file k part (part-found file k e l)).1 j h

-- ---- the fresh pixels

module _ (file : List ℕ) (w : Window) (s : List ℕ) (b : Band) where
  abbrev number : ℕ
  number = first_met (frame_band_conditions file w (length s) b)

  shaped : number ≡ 0 → Shaped w (length s)
  shaped e =
      let rows = (append_none (rows_conditions w (length s) b) (file_conditions file) (rows_numbered w (length s) b) e).0 in
      (frame w (length s) (append_none (frame_conditions w (length s)) ((6, band_out w b) ∷ []) (frame_numbered w (length s)) rows).0).shape

  adds : (n : ℕ) → number ≡ n → (p : Option FramePart)
      → Adds w s (unless_refused n (part_raster file p w b s) s) (fresh_of_frame (answer n (part_counts file p w s b)))
  adds zero e None = sym (add-zero (marked_count w s))
  adds zero e (Some part) = marked-plus w s (shaped e) _
  adds (suc n) e p = sym (add-zero (marked_count w s))

  pub frame_adds : (k : ℕ) → FrameAdds file k w s b
  frame_adds k = adds number refl (part_of (table file) k)

-- ---- a written file

module _ (list : List ℤ) (numbers : List ℕ) (n : ℕ) (e : first_met (write_conditions list numbers n) ≡ 0)
    (k : ℕ) (l : k < length numbers) (w : Window) (s : List ℕ) (b : Band) where
  file_is : Written list numbers
  file_is = written list numbers n e

  abbrev file : List ℕ
  file = encoded list numbers

  -- the file refuses nothing, and the frame is there
  rows_left : first_met (frame_band_conditions file w (length s) b) ≡ first_met (rows_conditions w (length s) b)
  rows_left = append_clear (rows_conditions w (length s) b) (file_conditions file) file_is.accepted

  there : part_of (table file) k ≡ Some (frame_part numbers k)
  there = ap (λ (t : List ℕ). part_of t k) file_is.same-table ∙ rw (lt-ltb k (length numbers) l)

  same : records_in file (frame_part numbers k) ≡ frame_records list numbers k
  same = file_is.found-records k l

  pub drawn_as_written : DrawnAsWritten list numbers k w s b
  drawn_as_written =
      record {
        answers = rw (rows_left, there, same);
        leaves = rw (rows_left, there, same);
      }
