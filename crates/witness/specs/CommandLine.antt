-- The command line.
use Rattle.std.specs.Prelude.{ℕ, List, [], ◌∷◌, map, Option, Some, None, true, false, option_map, codes, if◌then◌else◌}
use Rattle.std.specs.Str.{bytes_eq}
use Rattle.std.specs.Global.{Vec}
use Rattle.clap.specs.Words.{App, Text as Word, new_app, new_rule, with_rule}
use Rattle.clap.specs.declared.builder.action.ArgAction.TheVariants.{Set}
use Rattle.wit_model.specs.Trace.Words.{number_of}
use Rattle.wit_merge.specs.declared.machine.Shown.TheVariants.{Merged, Unseen}
use Rattle.wit_merge.specs.declared.machine.Shown.TheVariants.{Text as ForPeople}
use Rattle.wit_lines.specs.declared.view.View.TheVariants.{Reports, Graph, Locks, Circle, State}
use Rattle.wit_lines.specs.declared.view.View.TheVariants.{Clean}
use Rattle.witness.specs.declared.command.Command.{Command}
use Rattle.witness.specs.declared.command.Command.TheVariants.{Demo, Run, Write}
use Rattle.witness.specs.declared.command.Machine.TheVariants.{Find, Forecast, Grade, Import, Judge}
use Rattle.witness.specs.declared.command.Machine.TheVariants.{Merge, Migrate, Show}
use Rattle.witness.specs.declared.command.Form.TheVariants.{Dot, Html, Pictures, Sarif, Text}
use Rattle.witness.specs.declared.command.Choice.{Choice}
use Rattle.witness.specs.declared.command.Choice.TheVariants.{Interrupts, Readers}
use Rattle.witness.specs.declared.command.Encoding.{Encoding}
use Rattle.witness.specs.declared.command.Source.{Source}
use Rattle.witness.specs.declared.command.Source.TheVariants.{Ftrace, Lttng, Plain}

-- the words' bytes
abbrev pub bytes_of : List (Vec ℕ) → List (List ℕ)
bytes_of words = map (λ (word : Vec ℕ). word.items) words

-- the words that ask for something alone, with what each asks for
abbrev pub words_alone : List (List ℕ × Command)
words_alone =
    (codes "replay", Run (Show Reports))
    ∷ (codes "graph", Run (Show Graph))
    ∷ (codes "locks", Run (Show Locks))
    ∷ (codes "circle", Run (Show Circle))
    ∷ (codes "state", Run (Show State))
    ∷ (codes "clean", Run (Show Clean))
    ∷ (codes "migrate", Run Migrate)
    ∷ (codes "forecast", Run Forecast)
    ∷ (codes "grade", Run Grade)
    ∷ (codes "findings", Run Find)
    ∷ (codes "html", Write Html)
    ∷ (codes "sarif", Write Sarif)
    ∷ (codes "text", Write Text)
    ∷ (codes "dot", Write Dot)
    ∷ (codes "pictures", Write Pictures)
    ∷ (codes "demo", Demo)
    ∷ []

-- what stands with the word among these
abbrev pub found_among : List (List ℕ × Command) → List ℕ → Option Command
found_among [] word = None
found_among (known ∷ others) word =
    if bytes_eq word known.0 then Some known.1 else found_among others word

-- what a word asks for
abbrev pub command_named : List ℕ → Option Command
command_named word = found_among words_alone word

-- an option of an import of ftrace
abbrev pub choice_named : List ℕ → Option Choice
choice_named word =
    if bytes_eq word (codes "--irq") then Some (Interrupts true)
    else if bytes_eq word (codes "--no-irq") then Some (Interrupts false)
    else if bytes_eq word (codes "--readers") then Some (Readers true)
    else if bytes_eq word (codes "--no-readers") then Some (Readers false)
    else None

-- what it makes of an encoding
abbrev pub with_choice : Encoding → Choice → Encoding
with_choice e (Interrupts is) = record e { interrupts = is }
with_choice e (Readers is) = record e { readers = is }

abbrev pub with_chosen : Encoding → Option Choice → Option Encoding
with_chosen e None = None
with_chosen e (Some choice) = Some (with_choice e choice)

abbrev pub with_option : Encoding → List ℕ → Option Encoding
with_option e option = with_chosen e (choice_named option)

-- what options make of it, one behind the other
abbrev pub encoding_from : Option Encoding → List (List ℕ) → Option Encoding
encoding_from None options = None
encoding_from (Some e) [] = Some e
encoding_from (Some e) (option ∷ options) = encoding_from (with_option e option) options

abbrev pub encoding_by : Encoding → List (List ℕ) → Option Encoding
encoding_by e options = encoding_from (Some e) options

-- a source that has no options
abbrev pub alone : Source → List (List ℕ) → Option Source
alone source [] = Some source
alone source (option ∷ options) = None

-- of ftrace interrupts and readers are told, where no option says that they aren't
abbrev pub ftrace_by : List (List ℕ) → Option Source
ftrace_by options =
    option_map Ftrace (encoding_by (record { interrupts = true; readers = true }) options)

-- a source
abbrev pub source_named : List ℕ → List (List ℕ) → Option Source
source_named source options =
    if bytes_eq source (codes "plain") then alone Plain options
    else if bytes_eq source (codes "lttng") then alone Lttng options
    else if bytes_eq source (codes "ftrace") then ftrace_by options
    else None

-- what words ask for: an import, of a source
abbrev pub import_named : List ℕ → List ℕ → List (List ℕ) → Option Command
import_named word source options =
    if bytes_eq word (codes "import") then option_map (λ s. Run (Import s)) (source_named source options) else None

-- what is to be done with orders, where nothing follows
abbrev pub task_alone : List ℕ → Option Command
task_alone task =
    if bytes_eq task (codes "judge") then Some (Run Judge)
    else if bytes_eq task (codes "merge") then Some (Run (Merge Merged))
    else if bytes_eq task (codes "text") then Some (Run (Merge ForPeople))
    else None

-- the orders that weren't met within so many runs
abbrev pub unseen_within : Option ℕ → Option Command
unseen_within runs = option_map (λ n. Run (Merge (Unseen n))) runs

-- what is to be done with orders: `unseen` has a number, and nothing else has an option
abbrev pub task_named : List ℕ → List (List ℕ) → Option Command
task_named task [] = task_alone task
task_named task (runs ∷ []) =
    if bytes_eq task (codes "unseen") then unseen_within (number_of 4294967296 runs) else None
task_named task (_ ∷ _ ∷ _) = None

-- what two words and options ask for: something of orders, or an import
abbrev pub named_by_two : List ℕ → List ℕ → List (List ℕ) → Option Command
named_by_two word next options =
    if bytes_eq word (codes "orders") then task_named next options
    else import_named word next options

-- what one word asks for that stands alone
abbrev pub asked_alone : List (List ℕ) → Option Command
asked_alone (word ∷ []) = command_named word
asked_alone _ = None

-- what the words behind the program's name ask for: one word that names it, or two and options
unfoldable pub asked : List (List ℕ) → Option Command
asked (word ∷ next ∷ options) = named_by_two word next options
asked words = asked_alone words

-- the word behind the program's name, where it is the only one
abbrev pub only_word : List Word → Option Word
only_word (name ∷ word ∷ []) = Some word
only_word _ = None

-- what a word asks for, where there is one
abbrev pub option_named : Option Word → Option Command
option_named (Some word) = command_named word
option_named None = None

-- what clap is asked to read: one word, which has to be there, and no option
abbrev pub command_line : App
command_line = with_rule
    (record (new_app (codes "witness")) {
      top = record
          (new_app (codes "witness")).top { disable_help_flag = true };
    })
    (record (new_rule (codes "word")) { required = true; action = Some Set })
