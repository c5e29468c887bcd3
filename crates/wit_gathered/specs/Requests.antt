-- Requests: which are kept to be told.
use Rattle.std.specs.Prelude.{Bool, true, false, ◌&&◌, not, List, [], ◌∷◌, ◌++◌, nat_eq, if◌then◌else◌}
use Rattle.std.specs.Prelude.{Option, Some, None}
use Rattle.std.specs.Bool.{beq}
use Rattle.std.specs.List.{list_any}
use Rattle.wit_traced.specs.declared.contexts.Context.{Context}
use Rattle.wit_traced.specs.declared.contexts.Context.TheVariants.{Task, Idle, Softirq, Hardirq}
use Rattle.wit_gathered.specs.declared.holds.Hold.{Hold}
use Rattle.wit_gathered.specs.declared.requests.Step.{Step}
use Rattle.wit_gathered.specs.declared.requests.Kept.{Kept}
use Rattle.wit_gathered.specs.declared.requests.Kept.TheVariants.{Asks, Twice}
use Rattle.wit_gathered.specs.declared.requests.TheConstants.{NO_PLACE}
use Rattle.wit_gathered.specs.declared.requests.Requests.{Requests}
use Rattle.wit_gathered.specs.declared.types.Type.{«Type»}
use Rattle.wit_gathered.specs.declared.types.Type.TheVariants as kind
use Rattle.wit_gathered.specs.Holds.{same_context}

abbrev pub same_type : «Type» → «Type» → Bool
same_type kind.Hardirq kind.Hardirq = true
same_type kind.Softirq kind.Softirq = true
same_type (kind.Of n) (kind.Of m) = nat_eq n m
same_type (kind.ReadersOf n) (kind.ReadersOf m) = nat_eq n m
same_type _ _ = false

-- ---- what a request is made under

-- what the context holds itself. With a lock over those of one type, which keeps them in sequence,
-- these don't count
abbrev pub counts : Context → Step → Bool → Hold → Bool
counts context asked nested h =
    same_context h.context context && not (nested && same_type h.step.of asked.of)

abbrev pub own_steps : List Hold → Context → Step → Bool → List Step
own_steps [] context asked nested = []
own_steps (h ∷ held) context asked nested =
    if counts context asked nested h then h.step ∷ own_steps held context asked nested
    else own_steps held context asked nested

-- the lock that an interrupt stands for, which its context holds
abbrev pub interrupt_type : Context → Option «Type»
interrupt_type (Hardirq processor) = Some kind.Hardirq
interrupt_type (Softirq processor) = Some kind.Softirq
interrupt_type (Task task) = None
interrupt_type (Idle processor) = None

abbrev pub interrupt_step : «Type» → Step
interrupt_step of = record { of = of; place = NO_PLACE; tried = true }

abbrev pub steps_of : Option «Type» → List Step
steps_of None = []
steps_of (Some of) = interrupt_step of ∷ []

-- an interrupt counts as held before all else, where interrupts are told
abbrev pub interrupt_steps : Bool → Context → List Step
interrupt_steps interrupts context = if interrupts then steps_of (interrupt_type context) else []

abbrev pub steps_under : Bool → List Hold → Context → Step → Bool → List Step
steps_under interrupts held context asked nested =
    interrupt_steps interrupts context ++ own_steps held context asked nested

-- ---- pairs of types: one that is held, and the one that is asked for

abbrev pub is_pair : «Type» → «Type» → «Type» × «Type» → Bool
is_pair a b pair = same_type a pair.0 && same_type b pair.1

abbrev pub has_pair : List («Type» × «Type») → «Type» → «Type» → Bool
has_pair pairs a b = list_any (is_pair a b) pairs

abbrev pub with_pair : List («Type» × «Type») → «Type» → «Type» → List («Type» × «Type»)
with_pair pairs a b = if has_pair pairs a b then pairs else pairs ++ (a, b) ∷ []

abbrev pub are_known : List («Type» × «Type») → «Type» → List Step → Bool
are_known pairs b [] = true
are_known pairs b (s ∷ steps) = has_pair pairs s.of b && are_known pairs b steps

abbrev pub with_pairs : List («Type» × «Type») → «Type» → List Step → List («Type» × «Type»)
with_pairs pairs b [] = pairs
with_pairs pairs b (s ∷ steps) = with_pairs (with_pair pairs s.of b) b steps

-- ---- what is kept

pub record Requested : Type 0 where
  pub pairs : List («Type» × «Type»)
  pub twice : List Step
  pub kept : List Kept

abbrev pub requested : Requests → Requested
requested r = record { pairs = r.pairs.keys; twice = r.twice.keys; kept = r.kept.items }

abbrev pub nothing_requested : Requested
nothing_requested = record { pairs = []; twice = []; kept = [] }

abbrev pub asking : List Step → Step → Kept
asking steps asked = Asks (record { held = steps; asked = asked })

abbrev pub with_asking : Requested → List Step → Step → Requested
with_asking r steps asked = record r { kept = r.kept ++ asking steps asked ∷ [] }

-- a request is kept where one of its pairs is new, with all that it was made under
abbrev pub after_asking : Requested → List Step → Step → Requested
after_asking r steps asked =
    if are_known r.pairs asked.of steps then r
    else with_asking (record r { pairs = with_pairs r.pairs asked.of steps }) steps asked

abbrev pub same_step : Step → Step → Bool
same_step a b =
    (same_type a.of b.of && nat_eq a.place b.place) && beq a.tried b.tried

-- a release of what nobody holds, once for each type and place
abbrev pub after_twice : Requested → Step → Requested
after_twice r released =
    if list_any (same_step released) r.twice then r
    else record r {
      twice = r.twice ++ released ∷ [];
      kept = r.kept ++ Twice released ∷ [];
    }
