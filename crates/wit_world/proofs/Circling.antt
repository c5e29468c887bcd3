-- Who waits for whose share, as a table of it says.
use Rattle.std.proofs.Common.{◌≡◌, ℕ, Bool, true, false, nat_lt, nat_le, List, length, Option, None}
use Rattle.std.proofs.Common.{Some, unwrap_or, refl, sym, ap, ◌∙◌, subst}
use Rattle.std.specs.Global.{Vec}
use Rattle.std.proofs.lemmas.Bool.{and_parts, ltb-true, leb-true}
use Rattle.wit_model.specs.declared.calls.Request.{Request}
use Rattle.wit_model.specs.Rules.Circles.{TellsCircle}
use Rattle.wit_model.specs.Rules.Numbers.{is_given, is_number, IsNumber}
use Rattle.wit_model.specs.World.Stages.{Stage, Over, Asked}
use Rattle.wit_model.specs.World.Scenes.{Scene, stage_at}
use Rattle.wit_model.specs.World.Shown.{waits_in, WaitsIn}
use Rattle.wit_model.proofs.Numbered.{with_number-none}
use Rattle.wit_model.proofs.World.Circled.{circle-through, waits-world}
use Rattle.wit_model.proofs.World.Exclusion.{has_seat}
use Rattle.wit_waiting.specs.Searching.{all_waiting, table_of, Says, IsTable}
use Rattle.wit_waiting.proofs.WaitTables.{rows-many}
use Rattle.wit_waiting.proofs.Waits.{count-rows, is_table, says-is, says_true}
use Rattle.wit_world.specs.Kept.{IsKept}

module _ (s : Scene) (k : IsKept s) where
  number : (t : ℕ) → is_number s.story.start.sizes.seats t ≡ true
      → IsNumber s.story.start.sizes.seats t
  number t is =
      let parts = and_parts (nat_lt 0 t) (nat_le t s.story.start.sizes.seats) is in
      (ltb-true 0 t parts.0, leb-true t s.story.start.sizes.seats parts.1)

  asks-within : (t : ℕ) (q : Request) → stage_at s t ≡ Asked q
      → IsNumber s.story.start.sizes.seats t
  asks-within t q asks = by (is_given s.stages t) refl
    where
      by : (b : Bool) → is_given s.stages t ≡ b → IsNumber s.story.start.sizes.seats t
      by true given = number t (ap (λ n. is_number n t) (sym k.shown.seats) ∙ given)
      by false none =
          let over : Over ≡ Asked q =
          sym (ap (λ (o : Option Stage). unwrap_or o Over) (with_number-none s.stages t none))
          ∙ asks in
          (cc)

  -- only seats wait, and only for seats
  waits-seats : (t u : ℕ) → WaitsIn s t u → IsNumber s.story.start.sizes.seats t
      × IsNumber s.story.start.sizes.seats u
  waits-seats t u is =
      let x = waits-world s.story.start s.story.files k.deeds s k.shown t u is in (
        asks-within t x.request (k.shown.stages t ∙ x.asks),
        number u
            (has_seat s.story.start s.story.files k.deeds k.world u x.request.lock.0 x.taken),
      )

  module _ (rows : List (Vec Bool)) (is : table_of rows
      ≡ all_waiting (waits_in s) s.story.start.sizes.seats) where
    pub rows_table : IsTable (table_of rows)
    rows_table = subst IsTable (sym is) (is_table (waits_in s) s.story.start.sizes.seats)

    pub rows-count : length rows ≡ s.story.start.sizes.seats
    rows-count =
        sym (rows-many rows) ∙ ap length is ∙ count-rows (waits_in s) s.story.start.sizes.seats

    from : (t u : ℕ) → Says (table_of rows) t u → WaitsIn s t u
    from t u says =
        says_true (waits_in s) s.story.start.sizes.seats t u
        (subst (λ table. Says table t u) is says)

    into : (t u : ℕ) → WaitsIn s t u → Says (table_of rows) t u
    into t u waits =
        let within = waits-seats t u waits in
        subst (λ table. Says table t u) (sym is)
        (says-is (waits_in s) s.story.start.sizes.seats t u within.0 within.1 ∙ waits)

    -- what the table tells is told of the scene
    pub told_of_scene : (o : Option (List ℕ)) → TellsCircle (Says (table_of rows)) o
        → TellsCircle (WaitsIn s) o
    told_of_scene (Some seats) told = (circle-through from seats told.0, told.1)
    told_of_scene None none = λ seats circle. none seats (circle-through into seats circle)
