-- The known numbers and answers hold by computation.
use mathlib.Core.Path.{refl}
use Rattle.refusal.specs.Refusal.{first_met}
use Rattle.refusal.specs.Known.{KnownNumbers, KnownAnswers}

pub known_numbers : KnownNumbers
known_numbers =
    record {
      ends = record { as_answer = refl; as_number = refl; as_place = refl };
      window_size = record { as_answer = refl; as_number = refl; as_place = refl };
      window_place = record { as_answer = refl; as_number = refl; as_place = refl };
      raster_length = record { as_answer = refl; as_number = refl; as_place = refl };
      list_length = record { as_answer = refl; as_number = refl; as_place = refl };
      rows = record { as_answer = refl; as_number = refl; as_place = refl };
      run_count = record { as_answer = refl; as_number = refl; as_place = refl };
      first_run = record { as_answer = refl; as_number = refl; as_place = refl };
      later_run = record { as_answer = refl; as_number = refl; as_place = refl };
      input = record { as_answer = refl; as_number = refl; as_place = refl };
      file = record { as_answer = refl; as_number = refl; as_place = refl };
      table = record { as_answer = refl; as_number = refl; as_place = refl };
      record_out = record { as_answer = refl; as_number = refl; as_place = refl };
      not_finite = record { as_answer = refl; as_number = refl; as_place = refl };
      pen_range = record { as_answer = refl; as_number = refl; as_place = refl };
    }

pub known_answers : KnownAnswers
unfolding first_met
known_answers =
    record {
      no_condition = refl;
      none_met = refl;
      first_alone = refl;
      both_met = refl;
      later_alone = refl;
      larger_before = refl;
      values = refl;
      refused_one = refl;
      refused_nine = refl;
      work = refl;
      kept_at_one = refl;
      kept_at_nine = refl;
      ok = refl;
      err = refl;
      err_run = refl;
      given_number = refl;
      given_place = refl;
      given_not_refused = refl;
      refused_number = refl;
      refused_place = refl;
      refused_refused = refl;
    }
