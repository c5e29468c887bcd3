-- What an acquisition, a release and a turn to another mode make of a list of held locks.
use Rattle.std.specs.Prelude.{ℕ, ◌+◌, ◌-◌, ◌<◌, ◌≤◌, Bool, not, ◌&&◌, List, length, Option, None}
use Rattle.std.specs.Prelude.{Some, is_some, map, filter, find, nat_lt, if◌then◌else◌}
use Rattle.wit_model.specs.declared.locks.Mode.{Mode}
use Rattle.wit_model.specs.declared.locks.Site.{Site}
use Rattle.wit_model.specs.declared.locks.Instance.{Instance}
use Rattle.wit_model.specs.declared.sizes.TheConstants.Limits.{DEEPEST}
use Rattle.wit_model.specs.Rules.Verdict.{is_of}
use Rattle.wit_model.specs.Rules.Groups.{flat, joined, left}
use Rattle.wit_model.specs.Rules.Chunks.{Chunks, groups_of, chain_of, set_groups, is_refused}

-- how often a lock stands in a chain
abbrev pub stands : ℕ → List Instance → ℕ
stands l c = length (filter (is_of l) c)

-- the lock stands in the chain once at most
abbrev pub IsOnce : ℕ → List Instance → Type 0
IsOnce l c = stands l c ≤ 1

abbrev pub CanRise : Option Instance → Type 0
CanRise None = Unit {0}
CanRise (Some i) = i.count < DEEPEST

-- where the lock stands in the chain, its count can rise
abbrev pub IsShallow : ℕ → List Instance → Type 0
IsShallow l c = CanRise (find (is_of l) c)

-- a change of the lock's instance alone
abbrev pub at_lock : ℕ → (Instance → Instance) → Instance → Instance
at_lock l change i = if is_of l i then change i else i

abbrev pub change_lock : ℕ → (Instance → Instance) → List (List Instance) → List (List Instance)
change_lock l change gs = map (map (at_lock l change)) gs

-- acquired once more, at this site
abbrev pub recursed : Site → Instance → Instance
recursed site i = record i { count = i.count + 1; site = site }

-- released once
abbrev pub fewer : Instance → Instance
fewer i = record i { count = i.count - 1 }

abbrev pub in_mode : Mode → Instance → Instance
in_mode mode i = record i { mode = mode }

abbrev pub recorded_by : Instance → List (List Instance) → Option Instance → List (List Instance)
recorded_by i gs None = joined i gs
recorded_by i gs (Some held) = change_lock i.lock.0 (recursed i.site) gs

-- a list's groups after an acquisition: a held lock's count rises and it has the new site, a new
-- one goes to the end
abbrev pub recorded : Instance → List (List Instance) → List (List Instance)
recorded i gs = recorded_by i gs (find (is_of i.lock.0) (flat gs))

abbrev pub is_other : ℕ → Instance → Bool
is_other l i = not (is_of l i)

abbrev pub forgotten_by : ℕ → List (List Instance) → Option Instance → List (List Instance)
forgotten_by l gs None = gs
forgotten_by l gs (Some held) =
    if nat_lt 0 held.count then change_lock l fewer gs else left (is_other l) gs

-- a list's groups after a release: the lock's count falls, or it goes out where it has none
abbrev pub forgotten : ℕ → List (List Instance) → List (List Instance)
forgotten l gs = forgotten_by l gs (find (is_of l) (flat gs))

-- whether an acquisition finds no room
abbrev pub is_unrecorded : Chunks → ℕ → ℕ → Bool
is_unrecorded c list l = not (is_some (find (is_of l) (chain_of c list))) && is_refused c list

abbrev pub after_record : Chunks → ℕ → Instance → List (List (List Instance))
after_record c list i = if is_unrecorded c list i.lock.0 then c.groups
    else set_groups c list (recorded i (groups_of c list))

abbrev pub after_forget : Chunks → ℕ → ℕ → List (List (List Instance))
after_forget c list l = set_groups c list (forgotten l (groups_of c list))

abbrev pub after_turn : Chunks → ℕ → ℕ → Mode → List (List (List Instance))
after_turn c list l mode = set_groups c list (change_lock l (in_mode mode) (groups_of c list))
