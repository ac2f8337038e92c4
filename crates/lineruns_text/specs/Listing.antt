-- What listing the line of an input answers, and what it leaves in the list. Assumes nothing.
use Rattle.std.specs.Prelude.{List, ℤ, Option, None, Some}
use Rattle.refusal.specs.Refusal.{Answer, refused}
use Rattle.line.specs.declared.ends.Ends.{Ends}
use Rattle.line_list.specs.Listing.{list_answer, list_after}
use Rattle.line_list.specs.declared.list.Listing.{Listing}

-- 9 before the lister's own refusals
abbrev pub input_answer : Option Ends → List ℤ → Answer Listing
input_answer None list = refused 9
input_answer (Some e) list = list_answer e list

abbrev pub input_after : Option Ends → List ℤ → List ℤ
input_after None list = list
input_after (Some e) list = list_after e list
