use Rattle.std.proofs.Common.{◌≡◌, ◌<◌, List, [], ◌∷◌, ◌++◌, length, map, Ok, None, refl, sym, ap, ◌∙◌, arith}
use Rattle.std.proofs.lemmas.Bool.{lt-ltb}
use Rattle.dump_grammar.specs.Named.{NamedFamily}
use Rattle.dump_grammar.specs.Limits.{member_over}
use Rattle.dump_grammar.specs.Table.{IList, Families, Do, AddFamily, VFamilies}
use Rattle.dump_parser.specs.declared.list.Member.TheVariants as members
use Rattle.dump_parser.specs.Reading.{judged, ReadsMember}
use Rattle.dump_parser.specs.Environment.{named_family, family_values}
use Rattle.dump_parser.proofs.Steps.{judged_do}
use Rattle.dump_parser.proofs.Maps.{map_push, map_length}
use Rattle.dump_parser.proofs.Chains.{member-opened}
use Rattle.dump_parser.proofs.block.families.Goals as goal

pub loop-list-preserved : goal.loop-list-preserved
loop-list-preserved c =
    let xs = c.loop-list.list.items in
    let read : ReadsMember (Ok (members.Open c.in-Open.offset)) c.loop-list.tokens c.next_member.new.tokens = rw c.in-Open.is at c.in_ok-next_member.ensures.reads in
    let few : length (map named_family xs) < 255 = omega (arith, c.if-len-ge-MAX_FAMILIES.false, c.len.ensures, map_length xs named_family) in
    let pushed : map named_family c.push-in-Open.new.self.items ≡ map named_family xs ++ named_family c.in_ok-f-in-Open.f ∷ [] = ap (map named_family) c.in_ok-push-in-Open.ensures.items ∙ map_push named_family xs c.in_ok-f-in-Open.f in
    record {
      same = c.in_ok-f-in-Open.ensures.reads.same ∙ read.same ∙ c.loop-list.invariant.same;
      shorter = omega (arith, c.in_ok-f-in-Open.ensures.reads.shorter, read.shorter, c.loop-list.invariant.shorter);
      goes = λ k vs.
          let fits : member_over Families (VFamilies (map named_family xs) ∷ vs) ≡ None = rw (lt-ltb (length (map named_family xs)) 255 few) refl in
          c.loop-list.invariant.goes k vs
          ∙ member-opened c.loop-list.tokens c.next_member.new.tokens c.in-Open.offset Families k (VFamilies (map named_family xs) ∷ vs) read fits
          ∙ c.in_ok-f-in-Open.ensures.reads.goes (Do AddFamily (IList Families) ∷ k) (VFamilies (map named_family xs) ∷ vs)
          ∙ judged_do c.family.new.tokens AddFamily (IList Families) k (family_values c.in_ok-f-in-Open.f ++ VFamilies (map named_family xs) ∷ vs)
          ∙ ap (λ (fs : List NamedFamily). judged c.family.new.tokens (IList Families ∷ k) (VFamilies fs ∷ vs)) (sym pushed);
    }
