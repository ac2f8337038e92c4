-- Past the conditions of the line and both frames only 5 is left, which is the lister's, and then both ways are drawn.
use Prim.Native.Nat.{ℕ, ◌+◌, ◌*◌, ◌/◌, ◌^◌, ◌≤◌, ◌<◌, min}
use mathlib.Core.Path.{◌≡◌, refl, sym, ap, ◌∙◌}
use mathlib.Core.Bool.{Bool, false}
use mathlib.Core.List.{List, [], ◌∷◌}
use Rattle.std.specs.Prelude.{None}
use native.Mathlib.Omega.{arith}
use lib.IntN.{ℤ}
use lib.ListN.{length, take, drop, length-take}
use lib.Dec.{ltb, lit≤}
use Rattle.coordinate.specs.declared.axis.Axis.{Axis}
use Rattle.refusal.specs.Refusal.{Answer, given, turned_away, answer, unless_refused, first_met}
use Rattle.refusal.specs.declared.refusal.Refusal.{Refusal}
use Rattle.refusal.proofs.Conditions.{unmet, append_passed, append_none}
use Rattle.refusal.proofs.Handing.{handed_on, handed_back, kept, same_number}
use Rattle.raster.specs.Window.{length_off, window_conditions, frame_conditions}
use Rattle.raster.specs.declared.window.Window.{Window}
use Rattle.raster.proofs.Frames.{frame_numbered, window_in}
use Rattle.raster.proofs.Over.{Bytes}
use Rattle.drawing.specs.Figure.{Figure}
use Rattle.drawing.specs.Drawing.{draw_conditions, draw_counts, draw_raster}
use Rattle.drawing.specs.Calls.{after_bands, band_list}
use Rattle.drawing.specs.declared.counts.Counts.{Counts}
use Rattle.drawing.proofs.Conditions.{figure_in, frame_in}
use Rattle.runs.specs.Painting.{first_bad, runs_figure}
use Rattle.runs.specs.Paints.{PaintsAsDrawn}
use Rattle.runs.proofs.Paints.{paints_as_drawn}
use Rattle.runs.proofs.Counted.{counted_bad, counted_runs}
use Rattle.line.specs.Line.{short, axis, ends_out}
use Rattle.line.specs.Figure.{line_figure}
use Rattle.line.specs.declared.ends.Ends.{Ends}
use Rattle.line.proofs.Drawable.{ends_in, line_drawable}
use Rattle.line_list.specs.Listing.{list_conditions, line_list, list_answer, list_after, listing}
use Rattle.line_list.specs.RunFacts.{list_then}
use Rattle.line_list.proofs.RunFacts.{none_bad, paints_line}
use Rattle.both_ways.specs.EqualRaster.{EqualRaster}
use Rattle.both_ways.specs.BothWays.{frames_conditions, both_conditions, both_met, both_answer, both_values}
use Rattle.both_ways.specs.declared.draw.Both.{Both}
use Rattle.both_ways.proofs.EqualRaster.{equal_rasters}

module _ (e : Ends) (w : Window) (n m : ℕ) where
  -- past the first frame's conditions, the second frame's are its length's
  pub second_frame : first_met (draw_conditions (line_figure e) w n) ≡ 0 → first_met (frame_conditions w m) ≡ first_met (frames_conditions e w n m)
  second_frame h =
      append_passed (window_conditions w) ((4, length_off w m) ∷ []) (lit≤ tt, (lit≤ tt, tt)) (window_in w n (frame_in (line_figure e) (line_drawable e) w n h))
      ∙ sym (append_passed (draw_conditions (line_figure e) w n) ((4, length_off w m) ∷ []) (lit≤ tt, frame_numbered w n) h)

  module _ (h : first_met (frames_conditions e w n m) ≡ 0) where
    pub line_in : first_met (draw_conditions (line_figure e) w n) ≡ 0
    line_in = (append_none (draw_conditions (line_figure e) w n) ((4, length_off w m) ∷ []) (lit≤ tt, frame_numbered w n) h).0

    -- past both frames' conditions, what is left are the lister's
    pub lister_left : (k : ℕ) → first_met (list_conditions e k) ≡ first_met (both_conditions e w n m k)
    lister_left k =
        let five : Bool = ltb k (3 * (short e + 1)) in
        unmet 1 (ends_out e) ((5, five) ∷ []) (ends_in e (figure_in (line_figure e) (line_drawable e) w n line_in))
        ∙ sym (append_passed (frames_conditions e w n m) ((5, five) ∷ []) (lit≤ tt, (lit≤ tt, (lit≤ tt, (lit≤ tt, (lit≤ tt, tt))))) h)

-- ---- what is answered and left

module _ (e : Ends) (w : Window) (list : List ℤ) (bands s t : List ℕ) where
  abbrev number : ℕ
  number = both_met e w list s t

  -- the answer and the buffers are those that both ways promise
  abbrev pub Outcome : Answer Both → List ℤ → List ℕ → List ℕ → Type 0
  Outcome a listed painted banded =
      (a ≡ both_answer e w list bands s t)
      × ((listed ≡ unless_refused number (line_list e list) list)
      × ((painted ≡ unless_refused number (draw_raster (line_figure e) w s) s)
      × ((banded ≡ unless_refused number (after_bands (line_figure e) w t (band_list bands)) t)
      × (number ≡ 0 → t ≡ s → EqualRaster e w s list (band_list bands) listed painted banded))))

  pub both_refused : (r : Refusal) → ◌≡◌ {A = Answer Unit} (turned_away r) (answer number tt) → Outcome (turned_away r) list s t
  both_refused r q = (
    handed_on r number (both_values e w s t bands) q,
    (
      kept r number (line_list e list) list q,
      (
        kept r number (draw_raster (line_figure e) w s) s q,
        (
          kept r number (after_bands (line_figure e) w t (band_list bands)) t q,
          λ z _. absurd (let no : ◌≡◌ {A = ℕ} 0 1 = kept r 0 1 0 (q ∙ ap (λ (n : ℕ). answer n tt) z) in omega arith),
        ),
      ),
    ),
  )

  -- refused by the frames' check, or by the lister past it
  module _ (r : Refusal) where
    pub frames_refused : ◌≡◌ {A = Answer Unit} (turned_away r) (answer (first_met (frames_conditions e w (length s) (length t))) tt) → Outcome (turned_away r) list s t
    frames_refused q =
        both_refused r (q ∙ ap (λ (n : ℕ). answer n tt) (sym (same_number r (frames_conditions e w (length s) (length t)) _ q)))

    pub lister_refused : first_met (frames_conditions e w (length s) (length t)) ≡ 0 → turned_away r ≡ list_answer e list
        → (listed : List ℤ) → listed ≡ list_after e list → Outcome (turned_away r) listed s t
    lister_refused h q listed p =
        let told = handed_back r (first_met (list_conditions e (length list))) (listing (axis e) (short e + 1)) q in
        let same : listed ≡ list = p ∙ sym (kept r (first_met (list_conditions e (length list))) (line_list e list) list told) in
        rw same (both_refused r (told ∙ ap (λ (n : ℕ). answer n tt) (lister_left e w (length s) (length t) h (length list))))

  -- drawn
  module _ (h : first_met (frames_conditions e w (length s) (length t)) ≡ 0) (room : first_met (list_conditions e (length list)) ≡ 0) where
    none : number ≡ 0
    none = sym (lister_left e w (length s) (length t) h (length list)) ∙ room

    pub both_drawn : Bytes s → (listed : List ℤ) (painted banded : List ℕ) (b : Both) → b ≡ both_values e w s t bands
        → listed ≡ list_after e list → painted ≡ draw_raster (line_figure e) w s → banded ≡ after_bands (line_figure e) w t (band_list bands)
        → Outcome (given b) listed painted banded
    both_drawn bytes listed painted banded b f p q r =
        let listed_is : listed ≡ line_list e list = p ∙ ap (λ (n : ℕ). unless_refused n (line_list e list) list) room in (
          rw (f, none) refl,
          (
            listed_is ∙ ap (λ (n : ℕ). unless_refused n (line_list e list) list) (sym none),
            (
              q ∙ ap (λ (n : ℕ). unless_refused n (draw_raster (line_figure e) w s) s) (sym none),
              (
                r ∙ ap (λ (n : ℕ). unless_refused n (after_bands (line_figure e) w t (band_list bands)) t) (sym none),
                λ z same. equal_rasters e w s list (band_list bands) (line_in e w (length s) (length t) h) room bytes listed painted banded listed_is q
                    (r ∙ ap (λ (u : List ℕ). after_bands (line_figure e) w u (band_list bands)) same),
              ),
            ),
          ),
        )

-- ---- the painter's work on the lister's runs

module _ (e : Ends) (within : ends_out e ≡ false) (list rest : List ℤ) (list_is : list ≡ line_list e rest) (a : Axis) (a-is : a ≡ axis e)
    (part : List ℤ) (cut : part ≡ take (3 * (short e + 1)) list) where
  abbrev behind : List ℤ
  behind = drop (3 * (short e + 1)) rest

  -- the list begins with the line's runs
  begins : list ≡ list_then e behind
  unfolding line_list
  begins = list_is

  pub part_room : 3 * (short e + 1) ≤ length list
  part_room = rw begins ((paints_line e behind).room)

  part_long : length part / 3 ≡ short e + 1
  part_long = let size : length part ≡ min (3 * (short e + 1)) (length list) = ap length cut ∙ length-take (3 * (short e + 1)) list in omega (arith, size, part_room)

  -- none of them is bad
  pub part_good : first_bad part (length part / 3) ≡ None
  part_good = counted_bad list part (short e + 1) cut part_long ∙ rw begins (none_bad e behind within).first_bad_lem

  pub part_few : short e + 1 < 2 ^ 32 → length part / 3 < 2 ^ 32
  part_few l = rw part_long l

  figure_is : runs_figure a part (length part / 3) ≡ runs_figure (axis e) (list_then e behind) (short e + 1)
  figure_is = counted_runs list part (short e + 1) cut part_long a ∙ rw (begins, a-is) refl

  -- and painting them is drawing the line
  module _ (w : Window) (s : List ℕ) (passed : first_met (frame_conditions w (length s)) ≡ 0) where
    drawn : PaintsAsDrawn (line_figure e) w (axis e) (list_then e behind) (short e + 1) s
    drawn = paints_as_drawn (line_figure e) w (axis e) (list_then e behind) (short e + 1) ((paints_line e behind).paints within w) s passed

    pub part_counts : (c : Counts) → c ≡ draw_counts (runs_figure a part (length part / 3)) w s → c ≡ draw_counts (line_figure e) w s
    part_counts c p = p ∙ ap (λ (f : Figure). draw_counts f w s) figure_is ∙ drawn.counts

    pub part_leaves : (t : List ℕ) → t ≡ draw_raster (runs_figure a part (length part / 3)) w s → t ≡ draw_raster (line_figure e) w s
    part_leaves t p = p ∙ ap (λ (f : Figure). draw_raster f w s) figure_is ∙ drawn.raster
