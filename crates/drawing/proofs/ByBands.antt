-- The bands leave the start plus pixels of the figure, all of them where they take in every row.
use Prim.Native.Nat.{ℕ, ◌+◌, ◌<◌}
use mathlib.Core.Path.{◌≡◌, refl, sym, ap, ◌∙◌}
use mathlib.Core.Bool.{Bool, true, false, ◌&&◌, ◌||◌}
use mathlib.Core.List.{List, [], ◌∷◌}
use native.Mathlib.Omega.{arith}
use lib.IntN.{ℤ, pos, ◌+ℤ◌}
use lib.ListN.{length}
use Rattle.refusal.specs.Refusal.{first_met, answer}
use Rattle.counting.specs.Count.{one}
use Rattle.raster.specs.Fresh.{fresh_count}
use Rattle.raster.specs.declared.window.Window.{Window}
use Rattle.raster.proofs.Frames.{Frame}
use Rattle.raster.proofs.Over.{Bytes}
use Rattle.raster.proofs.Plus.{plus_cong}
use Rattle.raster.proofs.Fresh.{fresh_cong}
use Rattle.raster.proofs.StartPlus.{start_plus}
use Rattle.drawing.specs.Counts.{counts_of, fresh_of}
use Rattle.drawing.specs.Figure.{Figure, Drawable}
use Rattle.drawing.specs.Drawing.{draw_conditions, draw_counts, draw_raster}
use Rattle.drawing.specs.Calls.{after_bands, fresh_calls, in_band, in_bands, bands_of, times_in, EveryRow, EachRowOnce}
use Rattle.drawing.specs.ByBands.{ByBands}
use Rattle.drawing.specs.declared.band.Band.{Band}
use Rattle.drawing.proofs.Conditions.{draw_frame}
use Rattle.drawing.proofs.RowByRow.{once_counted}
use Rattle.drawing.proofs.CallLaws.{call_answer, bands_after, bands_fresh, bands_lawful}

module _ (f : Figure) (d : Drawable f) (w : Window) (s : List ℕ) (bands : List Band)
    (lawful : first_met (draw_conditions f w (length s)) ≡ 0) (bytes : Bytes s) where
  frm : Frame w (length s)
  frm = draw_frame f d w (length s) lawful

  -- bands that take in every row have all the figure's pixels
  every_pixel : EveryRow w bands → (c r : ℕ) → r < w.height
      → bands_of w bands f.has (w.left +ℤ pos c) (w.top +ℤ pos r) ≡ f.has (w.left +ℤ pos c) (w.top +ℤ pos r)
  every_pixel all c r lr = ap (λ (t : Bool). t && f.has (w.left +ℤ pos c) (w.top +ℤ pos r)) (all r lr)

  every_row : EveryRow w bands → after_bands f w s bands ≡ draw_raster f w s
  every_row all = bands_after f d w s lawful bytes bands ∙ plus_cong w s frm.shape _ _ (λ c r lc lr. every_pixel all c r lr)

  every_fresh : EveryRow w bands → fresh_calls f w s bands ≡ fresh_count w s f.has
  every_fresh all = bands_fresh f d w s lawful bytes bands ∙ fresh_cong w s frm.shape _ _ (λ c r lc lr. every_pixel all c r lr)

  -- bands that have a row exactly once have it
  some_band : (list : List Band) (row : ℤ) → 0 < times_in w list row → in_bands w list row ≡ true
  unfolding times_in in_bands
  some_band [] row l = absurd (omega arith)
  some_band (b ∷ bs) row l = go (in_band w b row) (some_band bs row) l
    where
      go : (t : Bool) → (0 < times_in w bs row → in_bands w bs row ≡ true) → 0 < one t + times_in w bs row → (t || in_bands w bs row) ≡ true
      go true ih h = refl
      go false ih h = ih (omega arith)

  once_every : EachRowOnce w bands → EveryRow w bands
  once_every once r lr = some_band bands (w.top +ℤ pos r) (omega (arith, once r lr))

  -- whatever holds the raster as the calls leave it
  pub by_bands : (banded : List ℕ) → banded ≡ after_bands f w s bands → ByBands f w s bands banded
  by_bands banded is =
      record {
        band_answers = λ before b. call_answer f d w (after_bands f w s before) (bands_lawful f d w s lawful before) b;
        banded_is = is ∙ bands_after f d w s lawful bytes bands;
        whole = λ all. is ∙ every_row all;
        fresh_adds_up = bands_fresh f d w s lawful bytes bands;
        fresh_of_whole = λ all. every_fresh all ∙ ap (λ (n : ℕ). fresh_of (answer n (draw_counts f w s))) (sym lawful);
        once_is_every = once_every;
        count_of_whole = λ once. once_counted f d w s lawful bands once ∙ ap (λ (n : ℕ). (counts_of (answer n (draw_counts f w s))).count) (sym lawful);
        start_plus = start_plus w s frm.shape;
      }
