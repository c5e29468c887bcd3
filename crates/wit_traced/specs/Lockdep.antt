-- What lockdep is told: the lines `la: ` and `lr: ` with all of it, and the tracepoints `lock_acquire` and
-- `lock_release`, which tell the name of a class alone.
use Rattle.std.specs.Prelude.{ℕ, zero, suc, Bool, false, ◌||◌, not, List, [], ◌∷◌, Option, Some, None, codes}
use Rattle.std.specs.Prelude.{drop, length, nat_eq, if◌then◌else◌}
use Rattle.std.specs.List.{list_all}
use Rattle.std.specs.Option.{option_and_then, option_map}
use Rattle.std.specs.Str.{bytes_eq}
use Rattle.wit_traced.specs.declared.events.Kind.{Kind}
use Rattle.wit_traced.specs.declared.events.Kind.TheVariants.{Spins, Sleeps, Map}
use Rattle.wit_traced.specs.declared.events.Reading.{Reading}
use Rattle.wit_traced.specs.declared.events.Reading.TheVariants.{Writes, Reads, Again}
use Rattle.wit_traced.specs.declared.lockdep.Field.{Field}
use Rattle.wit_traced.specs.declared.lockdep.Fields.{Fields}
use Rattle.wit_traced.specs.Acquiring.{Acquiring}
use Rattle.wit_traced.specs.Doings.{Doing, Acquires, PassesOver, Releases}
use Rattle.wit_traced.specs.Numbers.{hexadecimal}
use Rattle.wit_traced.specs.Pieces.{before, begins, behind, behind_first, has, onward, place, rest}
use Rattle.wit_traced.specs.Pieces.{trimmed_start, without}

abbrev pub is_rcu : List ℕ → Bool
is_rcu name = begins (codes "rcu_read_lock") name || begins (codes "rcu_callback") name

-- ---- `LOCK try read NAME`, with `try` and `read` where they hold

abbrev pub named_acquiring : ℕ → Bool → Bool → List ℕ → Acquiring
named_acquiring lock tried reads name = record {
  lock = lock;
  key = [];
  subclass = codes "0";
  name = name;
  kind = Sleeps;
  reading = if reads then Reads else Writes;
  tried = tried;
  nested = false;
  place = codes "lock_acquire";
}

abbrev pub acquired_named : ℕ → Bool → Bool → List ℕ → Doing
acquired_named lock tried reads name =
    if is_rcu name then PassesOver lock else Acquires (named_acquiring lock tried reads name)

abbrev pub acquired_reading : ℕ → Bool → List ℕ → Doing
acquired_reading lock tried text =
    acquired_named lock tried (begins (codes "read ") text) (without (codes "read ") text)

abbrev pub acquired_trying : ℕ → List ℕ → Doing
acquired_trying lock text =
    acquired_reading lock (begins (codes "try ") text) (without (codes "try ") text)

abbrev pub acquired_by_name : List ℕ → Option Doing
acquired_by_name text =
    option_map (λ lock. acquired_trying lock (rest (onward 32 text))) (hexadecimal (before 32 text))

abbrev pub released_by_name : List ℕ → Option Doing
released_by_name text =
    option_map (λ lock. Releases lock (codes "lock_release")) (hexadecimal (before 32 text))

-- ---- the fields of an event, each `KEY=VALUE`; a value in quotation marks may have spaces

pub record Values : Type 0 where
  pub map : List ℕ
  pub sub : List ℕ
  pub tries : List ℕ
  pub rd : List ℕ
  pub chk : List ℕ
  pub nest : List ℕ
  pub key : List ℕ
  pub wt : List ℕ
  pub ip : List ℕ
  pub name : List ℕ

abbrev pub values : Fields → Values
values f = record {
  map = f.map.now;
  sub = f.sub.now;
  tries = f.tries.now;
  rd = f.rd.now;
  chk = f.chk.now;
  nest = f.nest.now;
  key = f.key.now;
  wt = f.wt.now;
  ip = f.ip.now;
  name = f.name.now;
}

abbrev pub no_values : Values
no_values = record {
  map = [];
  sub = [];
  tries = [];
  rd = [];
  chk = [];
  nest = [];
  key = [];
  wt = [];
  ip = [];
  name = [];
}

unfoldable pub with_value : Values → List ℕ → List ℕ → Values
with_value v key value =
    if bytes_eq key (codes "map") then record v { map = value }
    else if bytes_eq key (codes "sub") then record v { sub = value }
    else if bytes_eq key (codes "try") then record v { tries = value }
    else if bytes_eq key (codes "rd") then record v { rd = value }
    else if bytes_eq key (codes "chk") then record v { chk = value }
    else if bytes_eq key (codes "nest") then record v { nest = value }
    else if bytes_eq key (codes "key") then record v { key = value }
    else if bytes_eq key (codes "wt") then record v { wt = value }
    else if bytes_eq key (codes "ip") then record v { ip = value }
    else if bytes_eq key (codes "name") then record v { name = value }
    else v

-- the first field of a text, and what stands behind it. A word without an equals sign is a key with no value
pub record Parted : Type 0 where
  pub key : List ℕ
  pub value : List ℕ
  pub behind : List ℕ

abbrev pub field : Field → Parted
field f = record { key = f.key.now; value = f.value.now; behind = f.behind.now }

abbrev pub quoted_field : List ℕ → List ℕ → Parted
quoted_field key text = record {
  key = key;
  value = before 34 (rest (rest text));
  behind = rest (onward 34 (rest (rest text)));
}

abbrev pub field_parted : List ℕ → List ℕ → List ℕ → Parted
field_parted text word key =
    if begins (61 ∷ 34 ∷ []) (onward 61 word) then quoted_field key (drop (length key) text)
    else record { key = key; value = rest (onward 61 word); behind = rest (onward 32 text) }

abbrev pub field_of : List ℕ → Parted
field_of text = field_parted text (before 32 text) (before 61 (before 32 text))

-- the values of a text, field by field, of which there are so many at most
abbrev pub values_in : ℕ → Values → List ℕ → Values
values_in fields v [] = v
values_in zero v (b ∷ text) = v
values_in (suc fields) v (b ∷ text) =
    values_in fields (with_value v (field_of (b ∷ text)).key (field_of (b ∷ text)).value)
    (field_of (b ∷ text)).behind

abbrev pub values_of : List ℕ → Values
values_of text = values_in (length text) no_values text

-- ---- an acquisition with all its fields

unfoldable pub reading_of : List ℕ → Reading
reading_of number =
    if bytes_eq number [] || bytes_eq number (codes "0") then Writes
    else if bytes_eq number (codes "2") then Again
    else Reads

-- by the wait type: 2 spins, 3 and 4 sleep, and 0 has none
unfoldable pub kind_of : List ℕ → Kind
kind_of wait_type =
    if bytes_eq wait_type (codes "2") then Spins
    else if bytes_eq wait_type (codes "0") || bytes_eq wait_type [] then Map
    else Sleeps

abbrev pub is_zero_digit : ℕ → Bool
is_zero_digit b = nat_eq b 48 || nat_eq b 120

-- it is the number 0, or missing
abbrev pub is_nothing : List ℕ → Bool
is_nothing number = list_all is_zero_digit number

abbrev pub acquiring_by : Values → ℕ → Acquiring
acquiring_by v lock = record {
  lock = lock;
  key = if is_nothing v.key then v.map else v.key;
  subclass = v.sub;
  name = v.name;
  kind = kind_of v.wt;
  reading = reading_of v.rd;
  tried = not (is_nothing v.tries);
  nested = not (is_nothing v.nest);
  place = place v.ip;
}

-- RCU's, and those that lockdep doesn't check, are passed over
abbrev pub is_passed_over : Values → Bool
is_passed_over v =
    bytes_eq v.wt (codes "1") || (bytes_eq v.chk (codes "0") || is_rcu v.name)

abbrev pub acquired_with : Values → ℕ → Doing
acquired_with v lock =
    if is_passed_over v then PassesOver lock else Acquires (acquiring_by v lock)

abbrev pub acquired : Values → Option Doing
acquired v = option_map (acquired_with v) (hexadecimal v.map)

abbrev pub released : Values → Option Doing
released v = option_map (λ lock. Releases lock (place v.ip)) (hexadecimal v.map)

abbrev pub released_in : List ℕ → Option Doing
released_in event =
    option_and_then (λ text. released (values_of text)) (behind (codes "lr: ") event)

abbrev pub acquired_or_released : List ℕ → Option (List ℕ) → Option Doing
acquired_or_released event None = released_in event
acquired_or_released event (Some text) = acquired (values_of text)

abbrev pub told_with_fields : List ℕ → Option Doing
told_with_fields event =
    if has (codes "map=") event
    then acquired_or_released event (behind (codes "la: ") event)
    else None

abbrev pub told_release : List ℕ → Option (List ℕ) → Option Doing
told_release event None = told_with_fields event
told_release event (Some text) = released_by_name (trimmed_start text)

abbrev pub told_acquire : List ℕ → Option (List ℕ) → Option Doing
told_acquire event None = told_release event (behind_first (codes "lock_release:") event)
told_acquire event (Some text) = acquired_by_name (trimmed_start text)

abbrev pub told_lockdep : List ℕ → Option Doing
told_lockdep event = told_acquire event (behind_first (codes "lock_acquire:") event)
