-- A request for a B under an A: what is read, held, known and written.
use Rattle.std.proofs.Common.{◌≡◌, [], ◌∷◌, ◌++◌, refl, inl, Some, None}
use Rattle.std.specs.Fmt.{digits}
use Rattle.wit_model.specs.Trace.Reading.{leading_word, class_named, site_of}
use Rattle.wit_import.specs.declared.events.Event.TheVariants.{Asks, Gets}
use Rattle.wit_import.specs.Example.{RequestIsMet, TextIsSpelled, b_under_a, b_under_a_text, gets_a, asks_b, whole_lines}
use Rattle.wit_import.specs.Example.{lock_a, lock_b}
use Rattle.wit_import.specs.Laws.{text_behind}
use Rattle.wit_import.specs.Outputs.{Imports, ended, header, nothing_seen}
use Rattle.wit_import.specs.Reading.{plain_line, keyword_named, acquisition_of, type_named, sharing_named}
use Rattle.wit_import.specs.Reading.{place_named}

reads-a : plain_line gets_a ≡ Some (Some (Gets lock_a))
unfolding plain_line keyword_named acquisition_of type_named sharing_named place_named leading_word class_named site_of
reads-a = refl

reads-b : plain_line asks_b ≡ Some (Some (Asks lock_b))
unfolding plain_line keyword_named acquisition_of type_named sharing_named place_named leading_word class_named site_of
reads-b = refl

text : text_behind nothing_seen b_under_a ≡ b_under_a_text
unfolding digits
text = refl

imported : Imports (whole_lines (gets_a ∷ asks_b ∷ [])) (header ++ b_under_a_text) (ended None)
unfolding plain_line keyword_named acquisition_of type_named sharing_named place_named leading_word class_named site_of digits
imported = record { written = refl; summed = refl }

pub request-met : RequestIsMet
request-met = record {
  reads_a = reads-a;
  reads_b = reads-b;
  among = inl refl;
  own = refl;
  again = refl;
  room = refl;
  new = refl;
  known = refl;
  turned = refl;
  text = text;
  imported = imported;
}

pub text-spelled : TextIsSpelled
unfolding digits
text-spelled = refl
