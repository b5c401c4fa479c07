-- 'The download bundle': the message (Message.antt) with the lost node f and the recording r in field 02, and a field
-- 03 for each planned place.
--
-- lost_content f r     : the content of field 02
-- lost_content_length   : how long it is
-- bundle_length p f    : the length of a bundle
-- longest_bundle       : no bundle is longer
-- bundle_of p f r x    : the bundle cut from the stored array x
-- write_tests p f x b  : the refusals of writing a bundle past those of a profile, in their order
-- write_with p f r x b : cutting a bundle from x, written into b, with the profile p: the answer, and what b holds then
-- write_of p f r x b   : the same for any numbers p
-- bundle_tests p f r b : the refusals 6 to 9 of a reader, in their order
-- bundle_strip p b i   : strip i of the bundle b, from 0
use Rattle.std.specs.Prelude.{◌&&◌, not, List, [], ◌∷◌, ℕ, ◌+◌, ◌*◌, eqb, ltb, length, Ok, Err}
use Rattle.fields.specs.Fields.{opening_length}
use Rattle.document.specs.declared.Numbers.{Numbers}
use Rattle.document.specs.declared.Profile.{Profile}
use Rattle.document.specs.declared.Node.{Node}
use Rattle.document.specs.declared.Recording.{Recording}
use Rattle.document.specs.declared.Refusal.TheVariants.{OutOfRange, BufferLength}
use Rattle.document.specs.Refusals.{Test, tried, Answer}
use Rattle.document.specs.Profile.{max_strip, on_accepted}
use Rattle.document.specs.Encoding.{strip_of}
use Rattle.document.specs.Plan.{planned, max_places}
use Rattle.document.specs.Message.{
  recording_length,
  recording_bytes,
  max_profile_content,
  strip_field_length,
  message_length,
  message_of,
  strip_in,
  strip_field_start,
  message_tests,
}

-- '02, ..: lost node, scenario number in four bytes', K2: 'Field 02 has length 7', the run after the scenario number.
unfoldable pub lost_content : Node → Recording → List ℕ
lost_content f r = f.0 ∷ recording_bytes r

abbrev pub lost_content_length : ℕ
lost_content_length = 1 + recording_length

-- K2: 'a bundle 19 + P(11+S)', P the number of places: field 01 takes 3+6 bytes, field 02 3+7, a field 03 3+8+S. In
-- edition 2 field 01 takes one byte more, and so does the bundle.
abbrev pub bundle_length : Profile → Node → ℕ
bundle_length p f = message_length p lost_content_length (length (planned p f))

abbrev pub longest_bundle : ℕ
longest_bundle =
    opening_length + max_profile_content + (opening_length + lost_content_length) + max_places * strip_field_length max_strip

-- 'A bundle cut from a stored array is what writing a bundle leaves: it takes its strips from the planned places and
-- the scenario number from the caller', and so the run.
unfoldable pub bundle_of : Profile → Node → Recording → List ℕ → List ℕ
bundle_of p f r x = message_of p (lost_content f r) r (strip_of p x) (planned p f)

-- The refusals of writing past those of a profile: 4, then 5 for an array not of nAS bytes or a bundle not of its
-- length.
unfoldable pub write_tests : Profile → Node → List ℕ → List ℕ → List Test
write_tests p f x b =
    record { refusal = OutOfRange; holds = not (ltb f.0 p.n) }
    ∷ record {
      refusal = BufferLength;
      holds = not (eqb (length x) (p.n * p.a * p.s) && eqb (length b) (bundle_length p f));
    }
    ∷ []

-- 'On success the answer is 0, with .. the length for a bundle'
unfoldable pub write_with : Profile → Node → Recording → List ℕ → List ℕ → Answer × List ℕ
write_with p f r x b =
    let bundle : List ℕ = bundle_of p f r x in
    tried (write_tests p f x b) (λ refusal. (Err refusal, b)) (Ok (length bundle), bundle)

unfoldable pub write_of : Numbers → ℕ → Recording → List ℕ → List ℕ → Answer × List ℕ
write_of p f r x b = on_accepted p (λ refusal. (Err refusal, b)) (λ p. write_with p (record { 0 = f }) r x b)

-- ---- a bundle to read: 'The rebuild is given the wanted profile, node and scenario beside the bundle', and the run.
unfoldable pub bundle_tests : Profile → Node → Recording → List ℕ → List Test
bundle_tests p f r b = message_tests p (lost_content f r) r (planned p f) b

abbrev pub bundle_strip : Profile → List ℕ → ℕ → List ℕ
bundle_strip p b i = strip_in p.s b (strip_field_start p lost_content_length i)
