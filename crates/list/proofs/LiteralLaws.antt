-- Records and outputs written out are those of the definitions, which are computed; the outputs without row 1, which never
-- applies in a list.
-- Assumes nothing.
use mathlib.Core.Path.{◌≡◌, refl, ◌∙◌}
use mathlib.Core.List.{List, [], ◌∷◌, map}
use Rattle.loops.specs.Search.{least_from, least}
use Rattle.calls.specs.Numbers.{tests}
use Rattle.calls.specs.Steps.{effects}
use Rattle.calls.proofs.Computing.{computing}
use Rattle.chain.specs.Way.{reached, numbered, met, way, records}
use Rattle.lines.specs.Text.{ascii, digit, decimal_in, decimal, hexadecimal}
use Rattle.lines.specs.Lines.{spaced, line, gives, told, call_line, word_line}
use Rattle.list.specs.Records.{kind_of}
use Rattle.list.specs.Texts.{bad_length, checked, output}
use Rattle.list.specs.Literals.{FieldsAt}
use Rattle.list.specs.Outputs.{sample_list, sample_text, codes_list, codes_text, frozen_list, frozen_text}
use Rattle.list.specs.Outputs.{joined_list, joined_text, full_list, full_text, Printed, printed, OutputsPrinted}
use Rattle.list.proofs.SoundRunLaws.{lines_below, output_below, output_below_lem}

pub fields_at : FieldsAt
unfolding kind_of
fields_at = record { code = refl; reading = λ b. refl; writing = λ b. refl; kinds = refl }

-- ---- outputs

unfoldable pub opened : Unit {0}
unfolding output_below lines_below bad_length checked kind_of way met reached numbered records least_from least call_line word_line
    told gives line spaced decimal decimal_in hexadecimal digit tests effects computing
opened = tt

sample_below : output_below sample_list ≡ sample_text
unfolding opened
sample_below = refl

codes_below : output_below codes_list ≡ codes_text
unfolding opened
codes_below = refl

frozen_below : output_below frozen_list ≡ frozen_text
unfolding opened
frozen_below = refl

joined_below : output_below joined_list ≡ joined_text
unfolding opened
joined_below = refl

full_below : output_below full_list ≡ full_text
unfolding opened
full_below = refl

others_below : map (λ (p : Printed). output_below p.list) printed ≡ map (λ (p : Printed). ascii p.text) printed
unfolding opened
others_below = refl

each_below : (ps : List Printed) → map (λ (p : Printed). output p.list) ps ≡ map (λ (p : Printed). output_below p.list) ps
each_below [] = refl
each_below (p ∷ ps) = λ j. output_below_lem p.list j ∷ each_below ps j

pub outputs_printed : OutputsPrinted
outputs_printed =
    record {
      sample = output_below_lem sample_list ∙ sample_below;
      codes = output_below_lem codes_list ∙ codes_below;
      frozen = output_below_lem frozen_list ∙ frozen_below;
      joined = output_below_lem joined_list ∙ joined_below;
      full = output_below_lem full_list ∙ full_below;
      others = each_below printed ∙ others_below;
    }
