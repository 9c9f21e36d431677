-- `runcalls::call_at` meets its contract. Assumes nothing.
use mathlib.Core.Path.{refl, ◌∙◌}
use native.Mathlib.Omega.{arith}
use Rattle.runcalls.proofs.Places.{put_inside, add_inside, any_inside, words_read_lem, words_kept, put_there, add_there, delete_there, query_there, readable}
use Rattle.runcalls.proofs.call_at.Goals as goal

pub number_at-kind-requires : goal.number_at-kind-requires
number_at-kind-requires c = omega (arith, any_inside c.args.run.now _ c.requires.plain.0 c.requires.plain.1)

pub put_call-requires : goal.put_call-requires
put_call-requires c = put_inside c.args.run.now _ c.requires.plain.0 c.requires.plain.1 _ c.number_at-kind.ensures.0 c.in-3.is

pub returns-in-3 : goal.returns-in-3
returns-in-3 c = let e = c.number_at-kind.ensures.0 in
    let f = c.in-3.is in
    record { done = put_there c.args.run.now _ _ _ _ _ _ _ _ _ _ _ e f (c.put_call.ensures _ refl); words = words_kept c.args.run.now c.args.p _ e _ (λ x. omega (arith, f, x)) }

pub add_call-requires : goal.add_call-requires
add_call-requires c = (add_inside c.args.run.now _ c.requires.plain.0 c.requires.plain.1 _ c.number_at-kind.ensures.0 c.in-4.is, c.requires.state)

pub returns-in-4 : goal.returns-in-4
returns-in-4 c = let e = c.number_at-kind.ensures.0 in
    let g = c.in-4.is in
    record { done = add_there c.args.run.now _ _ _ _ _ _ _ _ _ _ _ e g c.add_call.ensures.done; words = c.add_call.ensures.words ∙ words_read_lem c.args.run.now c.args.p _ e c.args.words.now g }

pub delete_call-requires : goal.delete_call-requires
delete_call-requires c = (any_inside c.args.run.now _ c.requires.plain.0 c.requires.plain.1, c.requires.state)

pub returns-in-5 : goal.returns-in-5
returns-in-5 c = let e = c.number_at-kind.ensures.0 in
    record { done = delete_there c.args.run.now _ _ _ _ _ _ _ _ _ _ _ e c.in-5.is c.delete_call.ensures; words = words_kept c.args.run.now c.args.p _ e _ (λ x. omega (arith, c.in-5.is, x)) }

pub overflow_add-p : goal.overflow_add-p
overflow_add-p c = omega (arith, any_inside c.args.run.now _ c.requires.plain.0 c.requires.plain.1)

pub number_at-id-requires : goal.number_at-id-requires
number_at-id-requires c = omega (arith, any_inside c.args.run.now _ c.requires.plain.0 c.requires.plain.1)

pub query-requires : goal.query-requires
query-requires c = readable _ _ _ _ c.requires.state

pub returns-in_default : goal.returns-in_default
returns-in_default c = let e = c.number_at-kind.ensures.0 in
    record {
      done = query_there c.args.run.now _ _ _ _ _ _ _ _ _ _ _ e (λ x. omega arith) (λ x. omega arith) (λ x. omega arith) _ c.number_at-id.ensures.0 (c.query.ensures _ _ (record { nodes_are = refl; boxes_are = refl }) refl refl);
      words = words_kept c.args.run.now c.args.p _ e _ (λ x. omega arith);
    }
