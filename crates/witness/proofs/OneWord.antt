-- What clap's definitions make of one word, and what it asks for.
use Rattle.std.proofs.Common.{◌≡◌, ◌∙◌, ℕ, Bool, true, false, zero, suc, List, [], ◌∷◌, Option}
use Rattle.std.proofs.Common.{Some, None, IfNone, Result, Ok, Err, MatchResult, length, refl, sym}
use Rattle.std.proofs.Common.{ap, subst, codes, if◌then◌else◌, get_or, slice_get, IsUtf8, arith}
use Rattle.std.proofs.lemmas.Slice.Eq.{bytes_eq-Decides}
use Rattle.std.specs.Global.{Vec}
use Rattle.std.specs.Result.{result_ok}
use Rattle.std.specs.Str.{bytes_eq, chars}
use Rattle.clap.specs.Words.{Rule, Text, first_of, matches_of, takes, built}
use Rattle.clap.specs.Lexer.{long_of, short_of}
use Rattle.clap.specs.Walk.{Held, Step, trailing, after_flag, after_step, bundle_met, bundle_step}
use Rattle.clap.specs.Walk.{finished, idle, long_or_other, nothing_held, plain, short_or_plain}
use Rattle.clap.specs.Walk.{value, walk_from, walked}
use Rattle.clap.proofs.OnLiterals.{clap_on_literals}
use Rattle.witness.specs.declared.command.Command.{Command}
use Rattle.witness.specs.CommandLine.{asked_alone, bytes_of, command_line, command_named}
use Rattle.witness.specs.CommandLine.{found_among, only_word, option_named, words_alone}

-- the rules that clap reads the words by
abbrev pub rules : List Rule
rules = (built command_line).top.rules

-- a short flag is unknown, so that its word is a value
char_is_value : (word flags : Text) (k : ℕ) (o : Option ℕ)
    → after_flag rules idle word
    (bundle_step rules o flags 0 plain nothing_held (bundle_met rules k)).0
    (bundle_step rules o flags 0 plain nothing_held (bundle_met rules k)).1 ≡ (nothing_held, value)
char_is_value word flags k None = refl
char_is_value word flags k (Some x) = refl

bundle_is_value : (word flags : Text) (k : ℕ)
    → after_flag rules idle word
    (bundle_met rules k flags 0 plain nothing_held).0
    (bundle_met rules k flags 0 plain nothing_held).1 ≡ (nothing_held, value)
unfolding bundle_met
bundle_is_value word flags zero = refl
bundle_is_value word flags (suc k) = char_is_value word flags k (slice_get (chars flags) 0)

short_is_value : (word : Text) (o : Option Text)
    → short_or_plain rules idle word o nothing_held ≡ (nothing_held, value)
short_is_value word None = refl
short_is_value word (Some flags) = bundle_is_value word flags (length flags)

other_is_value : (word : Text) (o : Option (Text × Option Text))
    → long_or_other rules idle word o nothing_held ≡ (nothing_held, value)
other_is_value word None = short_is_value word (short_of word)
other_is_value word (Some p) = refl

-- the text that clap gives, from what it takes the word for
abbrev text_of : Text → Held × Step → Option Text
text_of word met =
    first_of (codes "word") (finished rules
    (after_step rules word (walk_from nothing_held) met.0 met.1).held)

given : (word : Text) (b : Bool)
    → text_of word (if b then (nothing_held, trailing 1)
    else long_or_other rules idle word (long_of word) nothing_held)
    ≡ (if b then None else Some word)
given word true = refl
given word false = ap (text_of word) (other_is_value word (long_of word))

-- clap gives the word, but for `--`
pub text_given : (name word : Text)
    → first_of (codes "word") (matches_of command_line (name ∷ word ∷ []))
    ≡ (if bytes_eq word (45 ∷ 45 ∷ []) then None else Some word)
unfolding walked
text_given name word = given word (bytes_eq word (45 ∷ 45 ∷ []))

-- a text is known by its `Some`
pub same_text : (a b : Text) → Some a ≡ Some b → a ≡ b
same_text a b e = cc

kept : (b : Bool) (word given : Text) → Some given ≡ (if b then None else Some word)
    → Some word ≡ Some given
kept true word given e = cc
kept false word given e = sym e

-- the text that clap gives is the only word
pub given_is_asked : (words : List Text) (given : Text) → length words ≡ 2
    → Some given ≡ first_of (codes "word") (matches_of command_line words)
    → only_word words ≡ Some given
given_is_asked [] given two e = absurd (omega arith)
given_is_asked (name ∷ []) given two e = absurd (omega arith)
given_is_asked (name ∷ word ∷ []) given two e =
    kept (bytes_eq word (45 ∷ 45 ∷ [])) word given (e ∙ text_given name word)
given_is_asked (name ∷ word ∷ third ∷ more) given two e = absurd (omega arith)

-- each of these words has it
abbrev Each : (Text → Type 0) → List (Text × Command) → Type 0
Each P [] = Unit {0}
Each P (known ∷ others) = P known.0 × Each P others

found : (P : Text → Type 0) (known : List (Text × Command)) → Each P known → (word : Text)
    (what : Command) → found_among known word ≡ Some what → P word
found P [] all word what is = cc
found P (known ∷ others) all word what is =
    go (bytes_eq word known.0) refl (found P others all.1 word what) is
  where
    go : (b : Bool) → bytes_eq word known.0 ≡ b → (found_among others word ≡ Some what → P word)
        → (if b then Some known.1 else found_among others word) ≡ Some what → P word
    go true equal later is = subst P (sym ((bytes_eq-Decides word known.0).0 equal)) all.0
    go false equal later is = later is

-- what each word has that asks for something
pub for_words : (P : Text → Type 0) → Each P words_alone → (word : Text) (what : Command)
    → command_named word ≡ Some what → P word
for_words P all word what is = found P words_alone all word what is

-- clap gives a text where the only word asks for something
pub word_is_given : (words : List Text) (word : Text) (what : Command) → only_word words ≡ Some word
    → command_named word ≡ Some what
    → first_of (codes "word") (matches_of command_line words) ≡ Some word
word_is_given [] word what e is = cc
word_is_given (name ∷ []) word what e is = cc
word_is_given (name ∷ only ∷ []) word what e is =
    text_given name only ∙ ap (λ (w : Text). if bytes_eq w (45 ∷ 45 ∷ []) then None else Some w)
    (same_text _ _ e)
    ∙ ap (λ b. if b then None else Some word)
    (for_words (λ w. bytes_eq w (45 ∷ 45 ∷ []) ≡ false) (
      refl,
      (
        refl,
        (
          refl,
          (
            refl,
            (
              refl,
              (
                refl,
                (
                  refl,
                  (
                    refl,
                    (refl, (refl, (refl, (refl, (refl, (refl, (refl, (refl, tt)))))))),
                  ),
                ),
              ),
            ),
          ),
        ),
      ),
    ) word what is)
word_is_given (name ∷ only ∷ third ∷ more) word what e is = cc

literal_passes : (name word : Text) (what : Command) → command_named word ≡ Some what
    → takes command_line (name ∷ word ∷ []) ≡ true
unfolding clap_on_literals
literal_passes name word what is =
    for_words (λ w. takes command_line (name ∷ w ∷ []) ≡ true) (
      refl,
      (
        refl,
        (
          refl,
          (
            refl,
            (
              refl,
              (
                refl,
                (
                  refl,
                  (
                    refl,
                    (refl, (refl, (refl, (refl, (refl, (refl, (refl, (refl, tt)))))))),
                  ),
                ),
              ),
            ),
          ),
        ),
      ),
    ) word what is

-- clap accepts a command line whose only word asks for something
pub word_passes : (words : List Text) (word : Text) (what : Command) → only_word words ≡ Some word
    → command_named word ≡ Some what → takes command_line words ≡ true
word_passes [] word what e is = cc
word_passes (name ∷ []) word what e is = cc
word_passes (name ∷ only ∷ []) word what e is =
    ap (λ (w : Text). takes command_line (name ∷ w ∷ [])) (same_text _ _ e)
    ∙ literal_passes name word what is
word_passes (name ∷ only ∷ third ∷ more) word what e is = cc

-- where nothing can be asked for nothing is
unnamed_by : (word : Text) (o : Option Command) → command_named word ≡ o
    → ((what : Command) → command_named word ≡ Some what → ⊥) → command_named word ≡ None
unnamed_by word None is never = is
unnamed_by word (Some what) is never = absurd (never what is)

pub unnamed_option : (word : Option Text)
    → ((w : Text) (what : Command) → word ≡ Some w → command_named w ≡ Some what → ⊥)
    → None ≡ option_named word
unnamed_option None never = refl
unnamed_option (Some word) never =
    sym (unnamed_by word (command_named word) refl (λ what is. never word what refl is))

word_is_text : (word : Text) (what : Command) → command_named word ≡ Some what → IsUtf8 word
unfolding clap_on_literals
word_is_text word what is =
    for_words IsUtf8 (
      (codes "replay", (refl, refl)),
      (
        (codes "graph", (refl, refl)),
        (
          (codes "locks", (refl, refl)),
          (
            (codes "circle", (refl, refl)),
            (
              (codes "state", (refl, refl)),
              (
                (codes "clean", (refl, refl)),
                (
                  (codes "migrate", (refl, refl)),
                  (
                    (codes "forecast", (refl, refl)),
                    (
                      (codes "grade", (refl, refl)),
                      (
                        (codes "findings", (refl, refl)),
                        (
                          (codes "html", (refl, refl)),
                          (
                            (codes "sarif", (refl, refl)),
                            (
                              (codes "text", (refl, refl)),
                              (
                                (codes "dot", (refl, refl)),
                                (
                                  (codes "pictures", (refl, refl)),
                                  ((codes "demo", (refl, refl)), tt),
                                ),
                              ),
                            ),
                          ),
                        ),
                      ),
                    ),
                  ),
                ),
              ),
            ),
          ),
        ),
      ),
    ) word what is

-- bytes that are no text ask for nothing
pub unnamed_bytes : (word : List ℕ) → (IsUtf8 word → ⊥) → command_named word ≡ None
unnamed_bytes word h =
    unnamed_by word (command_named word) refl (λ what is. h (word_is_text word what is))

-- words of which the first asks for nothing ask for nothing
pub unasked : (words : List (Vec ℕ)) (word : Vec ℕ) → word ≡ get_or words 0 word
    → command_named word.items ≡ None → asked_alone (bytes_of words) ≡ None
unasked [] word at unnamed = refl
unasked (first ∷ []) word at unnamed = ap (λ (w : Vec ℕ). command_named w.items) (sym at) ∙ unnamed
unasked (first ∷ second ∷ more) word at unnamed = refl

-- where nothing is left of a result it was an error
pub none_of_error : {T E : Type 0} (A : T → Type 0) (B : E → Type 0) (P : Type 0) (r : Result T E)
    (o : Option T)
    → o ≡ result_ok r → MatchResult r A B → ((e : E) → B e → P) → IfNone o P
none_of_error A B P r (Some x) is cases f = tt
none_of_error A B P (Ok x) None is cases f = cc
none_of_error A B P (Err e) None is cases f = f e cases
