-- Figures drawn one after another in a window: each adds its pixels and its counts, so after all of them the raster is the start plus
-- the pixels of all.
use Prim.Native.Nat.{ℕ, zero, suc, ◌+◌, ◌*◌, ◌≤◌, ◌<◌}
use mathlib.Core.Path.{◌≡◌, refl, sym, ap, ap₂, ◌∙◌}
use mathlib.Core.Bool.{Bool}
use mathlib.Core.List.{List}
use native.Mathlib.Omega.{arith}
use native.Mathlib.Numerals.{add-one}
use lib.IntN.{ℤ}
use lib.ListN.{length}
use Rattle.counting.specs.Count.{any, sum}
use Rattle.counting.proofs.Any.{any_cong}
use Rattle.counting.proofs.Summed.{sum_cong}
use Rattle.raster.specs.Raster.{plus}
use Rattle.raster.specs.Fresh.{fresh_count}
use Rattle.raster.specs.declared.window.Window.{Window}
use Rattle.raster.proofs.Frames.{Frame, raster_max}
use Rattle.raster.proofs.Over.{Bytes}
use Rattle.raster.proofs.Plus.{plus-length, plus-plus, plus_none}
use Rattle.raster.proofs.Fresh.{bits_plus, fresh_none, fresh_both, fresh_most}
use Rattle.drawing.specs.Counts.{counts}
use Rattle.drawing.specs.Figure.{Figure, several}
use Rattle.drawing.specs.Drawing.{draw_counts, draw_raster}
use Rattle.drawing.specs.declared.counts.Counts.{Counts}
use Rattle.drawing.proofs.Same.{same_figure}

-- equal figures are drawn the same
pub several_cong : (n : ℕ) (f g : ℕ → Figure) → ((k : ℕ) → k < n → f k ≡ g k) → several n f ≡ several n g
several_cong n f g h =
    same_figure (several n f) (several n g) refl
    (λ x y. any_cong n _ _ (λ k l. ap (λ (it : Figure). it.has x y) (h k l)))
    (λ w. sum_cong n _ _ (λ k l. ap (λ (it : Figure). it.count w) (h k l)))

-- the first k figures are drawn
pub record Drew (figures : ℕ → Figure) (w : Window) (s now : List ℕ) (count fresh k : ℕ) : Type 0 where
  pub raster_is : now ≡ draw_raster (several k figures) w s
  pub counts_are : counts count fresh ≡ draw_counts (several k figures) w s

module _ (figures : ℕ → Figure) (w : Window) (s : List ℕ) where
  -- no drawing changes the raster's length
  pub drew_length : {now : List ℕ} {count fresh k : ℕ} → Drew figures w s now count fresh k → length now ≡ length s
  drew_length {k = k} d = ap length d.raster_is ∙ plus-length w s (several k figures).has

  -- where each has at most c pixels in the window, the sum is small
  count_few : (c k : ℕ) → ((i : ℕ) → i < k → (figures i).count w ≤ c) → (several k figures).count w ≤ c * k
  unfolding sum
  count_few c zero few = omega arith
  count_few c (suc k) few = omega (arith, count_few c k (λ i l. few i (omega arith)), few k (omega arith))

  pub drew_count : {now : List ℕ} {count fresh k : ℕ} (c : ℕ) → Drew figures w s now count fresh k → ((i : ℕ) → i < k → (figures i).count w ≤ c) → count ≤ c * k
  drew_count {k = k} c d few = omega (arith, ap (λ (m : Counts). m.count) d.counts_are, count_few c k few)

  module _ (frm : Frame w (length s)) where
    -- no more pixels are fresh than the raster has bits
    pub drew_few : {now : List ℕ} {count fresh k : ℕ} → Drew figures w s now count fresh k → fresh ≤ 67108864
    drew_few {k = k} d =
        let P : ℤ → ℤ → Bool = (several k figures).has in
        rw (ap (λ (m : Counts). m.fresh) d.counts_are)
        (fresh_most s (plus w s P) (fresh_count w s P) (plus-length w s P) (raster_max w (length s) frm) (bits_plus w s frm.shape P))

    pub drew_none : Bytes s → Drew figures w s s 0 0 0
    unfolding any sum
    drew_none bytes =
        record {
          raster_is = sym (plus_none w s frm.shape _ bytes (λ c q lc lq. refl));
          counts_are = ap (counts 0) (sym (fresh_none w s frm.shape _ (λ c q lc lq. refl)));
        }

    -- one figure more
    pub drew_on : (now next : List ℕ) (count fresh k : ℕ) (m : Counts) → Drew figures w s now count fresh k
        → m ≡ draw_counts (figures k) w now → next ≡ draw_raster (figures k) w now
        → Drew figures w s next (count + m.count) (fresh + m.fresh) (k + 1)
    unfolding any sum
    drew_on now next count fresh k m d p q =
        let P : ℤ → ℤ → Bool = (several k figures).has in
        let Q : ℤ → ℤ → Bool = (figures k).has in
        record {
          raster_is = rw (add-one k) (q ∙ ap (λ (t : List ℕ). plus w t Q) d.raster_is ∙ plus-plus w s P Q);
          counts_are =
              rw (add-one k)
              (ap₂ counts
              (ap₂ ◌+◌ (ap (λ (x : Counts). x.count) d.counts_are) (ap (λ (x : Counts). x.count) p))
              (ap₂ ◌+◌ (ap (λ (x : Counts). x.fresh) d.counts_are) (ap (λ (x : Counts). x.fresh) p ∙ ap (λ (t : List ℕ). fresh_count w t Q) d.raster_is)
              ∙ fresh_both w s frm.shape P Q));
        }
