-- One look through a chain, newest lock first, where the request is compared with all of it.
use Rattle.std.specs.Prelude.{◌||◌, true, false, List, [], ◌∷◌, ◌++◌, Some, None, is_some}
use Rattle.std.specs.Prelude.{if◌then◌else◌, find, reverse}
use Rattle.std.specs.List.{list_all}
use Rattle.wit_model.specs.declared.locks.Instance.{Instance}
use Rattle.wit_model.specs.declared.locks.TypeNo.{TypeNo}
use Rattle.wit_model.specs.declared.calls.TypedRequest.{TypedRequest}
use Rattle.wit_model.specs.Rules.Verdict.{Basis, is_of, type_held, has_type_of, is_learnt}
use Rattle.wit_model.specs.Rules.Verdict.{is_direct_behind, is_new}
use Rattle.wit_check.specs.declared.all_held.Met.{Met}

-- what a look through the whole chain finds
abbrev pub met_in : Basis → TypedRequest → List Instance → Met
met_in g q c = record {
  held = find (is_of q.lock.0) c;
  twin = find (has_type_of g q) (reverse c);
  known = list_all (is_direct_behind g q) (reverse c);
  teaches = is_some (find (is_new g q []) (reverse c));
}

abbrev pub nothing_met : Met
nothing_met = record { held = None; twin = None; known = true; teaches = false }

-- what is found once one lock more, the next older one, is looked at
abbrev pub with_met : Basis → TypedRequest → Instance → Met → Met
with_met g q i m = record {
  held = if is_of q.lock.0 i then Some i else m.held;
  twin = if is_some m.twin then m.twin else if has_type_of g q i then Some i else None;
  known = if is_direct_behind g q i then m.known else false;
  teaches = if is_direct_behind g q i then m.teaches else m.teaches || is_learnt g q i;
}

-- what is found once these are looked at
abbrev pub with_all_met : Basis → TypedRequest → List Instance → Met → Met
with_all_met g q [] m = m
with_all_met g q (i ∷ c) m = with_met g q i (with_all_met g q c m)

-- the types behind which orders are learnt, once the next older lock is looked at
abbrev pub with_parent : Basis → TypedRequest → Instance → List TypeNo → List TypeNo
with_parent g q i parents = if is_new g q parents i then parents ++ type_held g i ∷ [] else parents

abbrev pub with_parents : Basis → TypedRequest → List Instance → List TypeNo → List TypeNo
with_parents g q [] parents = parents
with_parents g q (i ∷ c) parents = with_parent g q i (with_parents g q c parents)
