-- An input of more than 64 bytes is refused for its length, and so are its first 65 bytes; a shorter one is all in them.
use Rattle.std.proofs.Common.{◌≡◌, ℕ, ◌≤◌, ◌<◌, true, false, Option, None, Some, IfSome, List, [], ◌++◌, refl, sym, ap, subst, ◌∙◌, ⊎_elim, arith, rules, length, take, drop, length-take, append-nil, ltb, drop_of_length-le}
use Rattle.std.specs.Io.KnownBytes.{Appends, Consumes, IsAtEnd}
use Rattle.std.proofs.KnownBytes.{Appends-nil}
use Rattle.std.proofs.Math.Seq.{take-append_seam, drop-append_seam}
use Rattle.std.proofs.lemmas.List.{take_all}
use Rattle.std.proofs.lemmas.Option.{IfSome_then}
use borrow.Author.Tests.{ltb-true, ltb-false, lt-ltb}
use Rattle.counting.proofs.Boolean.{tell}
use Rattle.lineruns_text.specs.Reading.{line_of}
use Rattle.lineruns_text.specs.Writing.{printed}
use Rattle.lineruns_text.specs.Written.{written}
use Rattle.lineruns_text.specs.Program.{FirstBytesDecide, AppendsFront, ConsumesUpTo, Stopped}
use Rattle.lineruns_text.proofs.Answering.{printed_bad, printed-length}
use Rattle.lineruns_text.proofs.Placing.{length-written, take-written}

-- more than 64 bytes are no line
no_line : (s : List ℕ) → 64 < length s → line_of s ≡ None
unfolding line_of
no_line s h = rw (lt-ltb 64 (length s) h)

-- bytes past the 65th do not matter
beyond : (n : ℕ) (s : List ℕ) → 64 < n → printed (take n s) ≡ printed s
beyond n s many = ⊎_elim long short (tell (ltb 64 (length s)))
  where
    long : ltb 64 (length s) ≡ true → printed (take n s) ≡ printed s
    long t =
        let more = ltb-true 64 (length s) t in
        printed_bad (take n s) (no_line (take n s) (omega (arith, length-take n s))) ∙ sym (printed_bad s (no_line s more))

    short : ltb 64 (length s) ≡ false → printed (take n s) ≡ printed s
    short t = let few = ltb-false 64 (length s) t in ap printed (take_all n s (omega arith))

pub first_bytes_decide : FirstBytesDecide
first_bytes_decide = record { decide = λ s. search (rules, beyond) }

-- ---- what was read

-- two facts of the value that an option has
IfSome_both : {A : Type 0} (P Q : A → Type 0) (o : Option A) → IfSome o P → IfSome o Q → IfSome o (λ a. P a × Q a)
IfSome_both P Q None p q = tt
IfSome_both P Q (Some a) p q = (p, q)

-- the first bytes and the others, where there are none but the first 65, or the first ones are that many
first_are : (bs rest : List ℕ) → length bs ≤ 65 → (length bs < 65 → rest ≡ []) → (bs ≡ take 65 (bs ++ rest)) × (rest ≡ drop 65 (bs ++ rest))
first_are bs rest few end = ⊎_elim fewer full (tell (ltb (length bs) 65))
  where
    fewer : ltb (length bs) 65 ≡ true → (bs ≡ take 65 (bs ++ rest)) × (rest ≡ drop 65 (bs ++ rest))
    fewer t =
        let none = end (ltb-true (length bs) 65 t) in
        rw (none, append-nil) (sym (take_all 65 bs few), sym (drop_of_length-le bs few))

    full : ltb (length bs) 65 ≡ false → (bs ≡ take 65 (bs ++ rest)) × (rest ≡ drop 65 (bs ++ rest))
    full t =
        let more = ltb-false (length bs) 65 t in
        let size : length bs ≡ 65 = omega arith in
        (sym (ap (λ (n : ℕ). take n (bs ++ rest)) (sym size) ∙ take-append_seam bs rest), sym (ap (λ (n : ℕ). drop n (bs ++ rest)) (sym size) ∙ drop-append_seam bs rest))

-- at most 65 bytes were read, and fewer only where the reader has no more
pub record FirstOf (old new : Option (List ℕ)) (bs : List ℕ) : Type 0 where
  pub consumed : Consumes old new bs
  pub few : length bs ≤ 65
  pub end : length bs < 65 → IsAtEnd new

-- of all the reader's bytes the first 65 are gone
pub rest_is : (old new : Option (List ℕ)) (bs : List ℕ) → FirstOf old new bs → IfSome old (λ input. new ≡ Some (drop 65 input))
rest_is None new bs r = tt
rest_is (Some input) None bs r = absurd r.consumed
rest_is (Some input) (Some rest) bs r = rw r.consumed (ap Some (first_are bs rest r.few r.end).1)

-- and what is printed for those that were read is printed for all
pub text_of_all : (old new : Option (List ℕ)) (bs : List ℕ) → FirstOf old new bs → IfSome old (λ input. printed bs ≡ printed input)
text_of_all None new bs r = tt
text_of_all (Some input) None bs r = absurd r.consumed
text_of_all (Some input) (Some rest) bs r =
    rw r.consumed (ap printed (first_are bs rest r.few r.end).0 ∙ first_bytes_decide.decide (bs ++ rest))

-- a reader that fails: nothing is written
pub read_stopped : (old new before : Option (List ℕ)) → ConsumesUpTo old new 65 → IfSome old (λ input. Stopped input new before before)
read_stopped None new before consumed = tt
read_stopped (Some input) None before (bs, few, consumed) = absurd consumed
read_stopped (Some input) (Some rest) before (bs, few, consumed) =
    record {
      taken = length bs;
      sent = 0;
      few = few;
      reader = ap Some (sym (rw consumed (drop-append_seam bs rest)));
      writer = Appends-nil before;
      order = λ some. absurd (omega (arith, some));
    }

-- a writer that fails: the input was read
pub write_stopped : (old new before after : Option (List ℕ)) (bs text : List ℕ) → FirstOf old new bs → text ≡ printed bs → AppendsFront before after text
    → IfSome old (λ input. Stopped input new before after)
write_stopped old new before after bs text r is sent =
    IfSome_then old (IfSome_both _ _ old (rest_is old new bs r) (text_of_all old new bs r))
    (λ input p. record {
      taken = 65;
      sent = sent.0;
      few = omega arith;
      reader = p.0;
      writer = subst (λ (l : List ℕ). Appends before after (take sent.0 l)) (is ∙ p.1) sent.1;
      order = λ some. refl;
    })

-- ---- what was written

-- the text is the front of the output
pub record Front (input exit : List ℕ) (end : ℕ) : Type 0 where
  pub fits : end ≤ length exit
  pub text : take end exit ≡ printed input

pub text_is : (input entry exit : List ℕ) (end : ℕ) → 110000 ≤ length entry → end ≡ length (printed input) → exit ≡ written 0 (printed input) entry → Front input exit end
text_is input entry exit end room size bytes =
    let l = printed-length input in
    record {
      fits = omega (arith, ap length bytes, length-written 0 (printed input) entry (omega arith));
      text =
          rw (size, bytes)
          (ap (λ (k : ℕ). take k (written 0 (printed input) entry)) (omega arith) ∙ take-written 0 (printed input) entry (omega arith));
    }
