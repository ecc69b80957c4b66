use Rattle.std.proofs.Common.{arith, ◌≡◌, ◌<◌, ◌∙◌, ℕ, List, [], ◌∷◌, Some, length, get_or, map, string_bytes, ap, sym}
use Rattle.command_words.specs.Topics.{named_in, topic_named, topic_of}
use Rattle.command_words.specs.declared.help.Topic.{Topic}
use Rattle.command_words.proofs.help.named_in.Goals as goal

second_named : {S : Type 0} (text_of : S → List ℕ) (words : List S) (word : S) (topic : Topic) → 1 < length words → ((d : S) → word ≡ get_or words 1 d)
    → topic_of (text_of word) ≡ Some topic → topic ≡ named_in (map text_of words)
second_named text_of [] word topic more is read = absurd (omega arith)
second_named text_of (program ∷ []) word topic more is read = absurd (omega arith)
second_named {S} text_of (program ∷ name ∷ rest) word topic more is read =
    sym (ap topic_named (ap (λ (w : S). topic_of (text_of w)) (sym (is program)) ∙ read))

pub returns-in-Some-read : goal.returns-in-Some-read
returns-in-Some-read c =
    let second = c.in-Some.ensures.lookup.3 in
    second_named string_bytes c.args.words.now c.in-Some.word.now c.in-Some-read.topic second.0 second.1
    (sym (ap topic_of c.as_str.ensures.value) ∙ (sym c.read.ensures ∙ c.in-Some-read.is))
