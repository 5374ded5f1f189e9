use Rattle.std.proofs.Common.{◌≡◌, ℕ, ◌-◌, List, [], ◌∷◌, ◌++◌, length, set, get_or, refl, ◌∙◌, ap, arith}
use Rattle.std.proofs.lemmas.List.{set_at, get_or_at, length_push}
use Rattle.disk_model.specs.declared.answer.Answer.TheVariants.{Failed}
use Rattle.disk_memory.specs.Past.{made}
use Rattle.disk_memory.specs.declared.past.Made.{Made}
use Rattle.disk_memory.proofs.past.Past.end.Goals as goal

-- the last of a list that ends so
last_place : {A : Type 0} (xs before : List A) (y : A) (n : ℕ) → xs ≡ before ++ y ∷ [] → n ≡ length xs → length before ≡ n - 1
last_place xs before y n e long = omega (arith, long, ap length e, length_push before y)

pub returns-then-count-gt0 : goal.returns-then-count-gt0
returns-then-count-gt0 g c = record {
  lost = refl;
  kept = λ lost. absurd (let a = c.if-not-self.true in cc);
  last = λ told before call e.
      let n = c.len-count.result in
      let place : length before ≡ n - 1 = last_place c.args.self.now.made.items before (made call Failed) n e (c.len-count.ensures ∙ c.args.self.now.made.ok.0) in
      let was : get_or c.args.self.now.made.items (n - 1) c.index_mut.result.now ≡ made call Failed = ap (λ xs. get_or xs (n - 1) c.index_mut.result.now) e ∙ get_or_at before (made call Failed) [] c.index_mut.result.now (n - 1) place in
      let is : c.index_mut.result.now.call ≡ call = ap (λ (m : Made g.row.C.Denot). m.call) (c.index_mut.ensures.value ∙ was) in
      ap (λ xs. set xs (n - 1) (made c.index_mut.result.now.call c.args.answer)) e ∙ set_at before (made call Failed) [] (made c.index_mut.result.now.call c.args.answer) (n - 1) place ∙ ap (λ x. before ++ made x c.args.answer ∷ []) is;
}
