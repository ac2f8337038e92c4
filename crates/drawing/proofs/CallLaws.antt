-- A list of band calls: each accepted one adds the figure's pixels in its rows, each refused one nothing, so after all of them
-- the raster is the start plus the figure's pixels in the accepted rows.
use Prim.Native.Nat.{ℕ, zero, suc, ◌+◌, ◌/◌, ◌≤◌}
use mathlib.Core.Path.{◌≡◌, refl, sym, ap, ap₂, ◌∙◌}
use mathlib.Core.Bool.{Bool, true, false, cond, not, ◌&&◌, ◌||◌, and-or_distrib_right}
use mathlib.Core.List.{List, [], ◌∷◌}
use native.Mathlib.Omega.{arith}
use native.Mathlib.Numerals.{add-one}
use lib.IntN.{ℤ, pos, ◌+ℤ◌}
use lib.ListN.{length}
use Rattle.counting.specs.Count.{one, each}
use Rattle.counting.proofs.Counted.{one_most}
use Rattle.refusal.specs.Refusal.{Answer, first_met, unless_refused, answer, given, refused, is_refused, turned_away}
use Rattle.refusal.specs.declared.refusal.Refusal.{Refusal}
use Rattle.refusal.proofs.Handing.{turned_by}
use Rattle.raster.specs.Raster.{plus}
use Rattle.raster.specs.Band.{in_rows}
use Rattle.raster.specs.Fresh.{fresh_count}
use Rattle.raster.specs.declared.window.Window.{Window}
use Rattle.raster.proofs.Frames.{Shaped, raster_max}
use Rattle.raster.proofs.Over.{Bytes}
use Rattle.raster.proofs.Plus.{plus-length, plus_bytes, plus-plus, plus_cong, plus_none}
use Rattle.raster.proofs.Fresh.{bits_plus, fresh_none, fresh_both, fresh_cong, fresh_most}
use Rattle.drawing.specs.Counts.{fresh_of}
use Rattle.drawing.specs.Figure.{Figure, Drawable}
use Rattle.drawing.specs.Drawing.{draw_conditions}
use Rattle.drawing.specs.Band.{band_of, band_out, band_conditions, band_counts, band_raster, band_answer, band_after}
use Rattle.drawing.specs.Calls.{after_bands, refused_calls, fresh_calls, in_band, in_bands, bands_of, band_at, band_list, band_calls}
use Rattle.drawing.specs.declared.band.Band.{Band}
use Rattle.drawing.specs.declared.counts.Counts.{Counts}
use Rattle.drawing.specs.declared.calls.BandCalls.{BandCalls}
use Rattle.drawing.proofs.Conditions.{draw_frame, six_decides, band_refused}

-- one call after others
module _ (f : Figure) (w : Window) where
  after_last : (s : List ℕ) (n : ℕ) (g : ℕ → Band) → after_bands f w s (each (suc n) g) ≡ band_after f w (after_bands f w s (each n g)) (g n)
  unfolding after_bands each
  after_last s zero g = refl
  after_last s (suc n) g = after_last (band_after f w s (g 0)) n (λ k. g (suc k))

  refused_last : (s : List ℕ) (n : ℕ) (g : ℕ → Band)
      → refused_calls f w s (each (suc n) g)
      ≡ refused_calls f w s (each n g) + one (is_refused (band_answer f w (after_bands f w s (each n g)) (g n)))
  unfolding refused_calls after_bands each
  refused_last s zero g = omega arith
  refused_last s (suc n) g = omega (arith, refused_last (band_after f w s (g 0)) n (λ k. g (suc k)))

  fresh_last : (s : List ℕ) (n : ℕ) (g : ℕ → Band)
      → fresh_calls f w s (each (suc n) g) ≡ fresh_calls f w s (each n g) + fresh_of (band_answer f w (after_bands f w s (each n g)) (g n))
  unfolding fresh_calls after_bands each
  fresh_last s zero g = omega arith
  fresh_last s (suc n) g = omega (arith, fresh_last (band_after f w s (g 0)) n (λ k. g (suc k)))

-- ---- within the limits

module _ (f : Figure) (d : Drawable f) (w : Window) where
  -- the figure, the window and the raster meet no condition
  abbrev pub Lawful : List ℕ → Type 0
  Lawful s = first_met (draw_conditions f w (length s)) ≡ 0

  lawful_as : (s t : List ℕ) → length t ≡ length s → Lawful s → Lawful t
  lawful_as s t l h = ap (λ (n : ℕ). first_met (draw_conditions f w n)) l ∙ h

  shaped : (s : List ℕ) → Lawful s → Shaped w (length s)
  shaped s h = (draw_frame f d w (length s) h).shape

  -- then 6 decides
  module _ (s : List ℕ) (h : Lawful s) (b : Band) where
    number_is : first_met (band_conditions f w (length s) b) ≡ cond (band_out w b) 6 0
    number_is = six_decides f d w (length s) b h

    pub call_answer : band_answer f w s b ≡ cond (band_out w b) (refused 6) (given (band_counts f w s b))
    call_answer = ap (λ (n : ℕ). answer n (band_counts f w s b)) number_is ∙ by (band_out w b)
      where
        by : (t : Bool) → answer (cond t 6 0) (band_counts f w s b) ≡ cond t (refused 6) (given (band_counts f w s b))
        by true = refl
        by false = refl

    -- the pixels that the call adds
    abbrev added : ℤ → ℤ → Bool
    added column row = in_band w b row && f.has column row

    call_after : Bytes s → band_after f w s b ≡ plus w s added
    call_after bytes = ap (λ (n : ℕ). unless_refused n (band_raster f w b s) s) number_is ∙ by (band_out w b)
      where
        by : (t : Bool)
            → unless_refused (cond t 6 0) (plus w s (band_of w b f.has)) s
            ≡ plus w s (λ column row. (not t && in_rows w b.first b.rows row) && f.has column row)
        by true = sym (plus_none w s (shaped s h) _ bytes (λ c r lc lr. refl))
        by false = refl

    -- its fresh pixels are those of them that are unmarked
    call_fresh : fresh_of (band_answer f w s b) ≡ fresh_count w s added
    call_fresh = ap fresh_of call_answer ∙ by (band_out w b)
      where
        by : (t : Bool) → fresh_of (cond t (refused 6) (given (band_counts f w s b)))
            ≡ fresh_count w s (λ column row. (not t && in_rows w b.first b.rows row) && f.has column row)
        by true = sym (fresh_none w s (shaped s h) _ (λ c r lc lr. refl))
        by false = refl

  -- ---- all calls

  -- the pixels of a band and of further ones
  joined : (b : Band) (bs : List Band) (r c : ℕ)
      → let x = w.left +ℤ pos c in let y = w.top +ℤ pos r in
      ((in_band w b y && f.has x y) || bands_of w bs f.has x y) ≡ bands_of w (b ∷ bs) f.has x y
  unfolding in_bands
  joined b bs r c =
      sym (and-or_distrib_right (in_band w b (w.top +ℤ pos r)) (in_bands w bs (w.top +ℤ pos r)) (f.has (w.left +ℤ pos c) (w.top +ℤ pos r)))

  pub bands_after : (s : List ℕ) → Lawful s → Bytes s → (bands : List Band) → after_bands f w s bands ≡ plus w s (bands_of w bands f.has)
  unfolding after_bands in_bands
  bands_after s h bytes [] = sym (plus_none w s (shaped s h) _ bytes (λ c r lc lr. refl))
  bands_after s h bytes (b ∷ bs) =
      let A : ℤ → ℤ → Bool = added s h b in
      let t : List ℕ = plus w s A in
      ap (λ (u : List ℕ). after_bands f w u bs) (call_after s h b bytes)
      ∙ bands_after t (lawful_as s t (plus-length w s A) h) (plus_bytes w s A) bs
      ∙ plus-plus w s A (bands_of w bs f.has)
      ∙ plus_cong w s (shaped s h) _ _ (λ c r lc lr. joined b bs r c)

  -- the fresh pixels of all calls
  pub bands_fresh : (s : List ℕ) → Lawful s → Bytes s → (bands : List Band) → fresh_calls f w s bands ≡ fresh_count w s (bands_of w bands f.has)
  unfolding fresh_calls in_bands
  bands_fresh s h bytes [] = sym (fresh_none w s (shaped s h) _ (λ c r lc lr. refl))
  bands_fresh s h bytes (b ∷ bs) =
      let A : ℤ → ℤ → Bool = added s h b in
      let t : List ℕ = plus w s A in
      ap₂ ◌+◌ (call_fresh s h b)
      (ap (λ (u : List ℕ). fresh_calls f w u bs) (call_after s h b bytes)
      ∙ bands_fresh t (lawful_as s t (plus-length w s A) h) (plus_bytes w s A) bs)
      ∙ fresh_both w s (shaped s h) A (bands_of w bs f.has)
      ∙ fresh_cong w s (shaped s h) _ _ (λ c r lc lr. joined b bs r c)

  -- no call changes the raster's length
  after_length : (s : List ℕ) (b : Band) → length (band_after f w s b) ≡ length s
  after_length s b = by (first_met (band_conditions f w (length s) b))
    where
      by : (m : ℕ) → length (unless_refused m (plus w s (band_of w b f.has)) s) ≡ length s
      by zero = plus-length w s (band_of w b f.has)
      by (suc m) = refl

  bands_length : (s : List ℕ) (bands : List Band) → length (after_bands f w s bands) ≡ length s
  unfolding after_bands
  bands_length s [] = refl
  bands_length s (b ∷ bs) = bands_length (band_after f w s b) bs ∙ after_length s b

  -- so the raster stays lawful
  pub after_lawful : (s : List ℕ) → Lawful s → (b : Band) → Lawful (band_after f w s b)
  after_lawful s h b = lawful_as s (band_after f w s b) (after_length s b) h

  pub bands_lawful : (s : List ℕ) → Lawful s → (bands : List Band) → Lawful (after_bands f w s bands)
  bands_lawful s h bands = lawful_as s (after_bands f w s bands) (bands_length s bands) h

-- ---- how many fresh pixels there can be

module _ (f : Figure) (d : Drawable f) (w : Window) (s : List ℕ) where
  -- none where the figure, the window or the raster is refused
  none_fresh : (n : ℕ) → first_met (draw_conditions f w (length s)) ≡ suc n → (bands : List Band) → fresh_calls f w s bands ≡ 0
  unfolding fresh_calls
  none_fresh n h [] = refl
  none_fresh n h (b ∷ bs) = rw (band_refused f w (length s) n b h) (ap (λ (m : ℕ). 0 + m) (none_fresh n h bs))

  -- and no more than the raster has bits
  calls_most : Bytes s → (bands : List Band) → fresh_calls f w s bands ≤ 67108864
  calls_most bytes bands = go (first_met (draw_conditions f w (length s))) refl
    where
      go : (n : ℕ) → first_met (draw_conditions f w (length s)) ≡ n → fresh_calls f w s bands ≤ 67108864
      go zero h =
          let frm = draw_frame f d w (length s) h in
          let P : ℤ → ℤ → Bool = bands_of w bands f.has in
          rw (bands_fresh f d w s h bytes bands)
          (fresh_most s (plus w s P) (fresh_count w s P) (plus-length w s P) (raster_max w (length s) frm) (bits_plus w s frm.shape P))
      go (suc n) h = omega (arith, none_fresh n h bands)

-- ---- the loop over a list of numbers

-- one call's part in what all calls answer
abbrev pub call_of : Answer Counts → BandCalls
call_of a = record { refused = one (is_refused a); fresh = fresh_of a }

pub call_refused : (r : Refusal) → ◌≡◌ {A = BandCalls} (call_of (turned_away r)) (record { refused = 1; fresh = 0 })
call_refused r = turned_by call_of (record { refused = 1; fresh = 0 }) r refl

-- the first k calls of a list of numbers are made
pub record Called (f : Figure) (w : Window) (s list now : List ℕ) (refusals fresh k : ℕ) : Type 0 where
  pub raster_is : now ≡ after_bands f w s (each k (band_at list))
  pub fresh_is : fresh ≡ fresh_calls f w s (each k (band_at list))
  pub refusals_is : refusals ≡ refused_calls f w s (each k (band_at list))
  pub most : refusals ≤ k

module _ (f : Figure) (d : Drawable f) (w : Window) (s list : List ℕ) where
  pub called_none : Called f w s list s 0 0 0
  unfolding each after_bands fresh_calls refused_calls
  called_none = record { raster_is = refl; fresh_is = refl; refusals_is = refl; most = omega arith }

  pub called_on : (now next : List ℕ) (refusals fresh k : ℕ) (call : BandCalls) → Called f w s list now refusals fresh k
      → next ≡ band_after f w now (band_at list k)
      → call ≡ call_of (band_answer f w now (band_at list k))
      → Called f w s list next (refusals + call.refused) (fresh + call.fresh) (k + 1)
  called_on now next refusals fresh k call c p q =
      let b : Band = band_at list k in
      record {
        raster_is =
            rw (add-one k) (p ∙ ap (λ (t : List ℕ). band_after f w t b) c.raster_is ∙ sym (after_last f w s k (band_at list)));
        refusals_is =
            rw (add-one k, refused_last f w s k (band_at list))
            (ap₂ ◌+◌ c.refusals_is
            (ap (λ (x : BandCalls). x.refused) q ∙ ap (λ (t : List ℕ). one (is_refused (band_answer f w t b))) c.raster_is));
        fresh_is =
            rw (add-one k, fresh_last f w s k (band_at list))
            (ap₂ ◌+◌ c.fresh_is
            (ap (λ (x : BandCalls). x.fresh) q ∙ ap (λ (t : List ℕ). fresh_of (band_answer f w t b)) c.raster_is));
        most = omega (arith, c.most, ap (λ (x : BandCalls). x.refused) q, one_most (is_refused (band_answer f w now b)));
      }

  -- the sum of fresh pixels fits
  pub called_few : {now : List ℕ} {refusals fresh k : ℕ} → Bytes s → Called f w s list now refusals fresh k → fresh ≤ 67108864
  called_few {k = k} bytes c = omega (arith, c.fresh_is, calls_most f d w s bytes (each k (band_at list)))

  -- all calls are made
  pub called_all : (now : List ℕ) (refusals fresh k : ℕ) → Called f w s list now refusals fresh k → k ≡ length list / 2
      → (◌≡◌ {A = BandCalls} (record { refused = refusals; fresh = fresh }) (band_calls f w s (band_list list))) × (now ≡ after_bands f w s (band_list list))
  unfolding band_list
  called_all now refusals fresh k c p = (
    ap₂ (λ (n m : ℕ). record { refused = n; fresh = m })
        (c.refusals_is ∙ ap (λ (n : ℕ). refused_calls f w s (each n (band_at list))) p)
        (c.fresh_is ∙ ap (λ (n : ℕ). fresh_calls f w s (each n (band_at list))) p),
    c.raster_is ∙ ap (λ (n : ℕ). after_bands f w s (each n (band_at list))) p,
  )
