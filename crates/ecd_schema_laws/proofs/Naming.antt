-- Which names are defined, which are groups, and which names reach each other, is decided.
use Rattle.std.proofs.Common.{ℕ, ◌≡◌, inl, inr, Bool, true, false, List, [], ◌∷◌, ◌++◌, replicate, refl, sym, ◌∙◌, subst}
use Rattle.std.specs.Prelude.{Option, Some, None, length, is_some, flat_map}
use Rattle.std.specs.List.{Contains}
use Rattle.std.proofs.lemmas.Cmp.{nat_list_eq_equiv}
use Rattle.std.proofs.lemmas.Map.Views.{Contains-from_any, list_any-from_Contains}
use Rattle.std.proofs.lemmas.Slice.Eq.{bytes_eq-Decides}
use Rattle.ecd_graph.specs.declared.edge.Edge.{Edge}
use Rattle.ecd_graph.specs.Graphs.{Reaches}
use Rattle.ecd_syntax.specs.declared.tree.Assign.{Assign}
use Rattle.ecd_syntax.specs.declared.tree.Assign.TheVariants.{Define, TypeMore, GroupMore}
use Rattle.ecd_syntax.specs.declared.tree.Name.{Name}
use Rattle.ecd_syntax.specs.declared.tree.Rule.{Rule}
use Rattle.ecd_uses.specs.declared.site.Lead.{Lead}
use Rattle.ecd_uses.specs.declared.site.Lead.TheVariants as leads
use Rattle.ecd_prelude.specs.Prelude.{float_names}
use Rattle.ecd_prelude.specs.Sockets.{is_group_socket}
use Rattle.ecd_bodies.specs.Causes.{edges_of_rule}
use Rattle.ecd_bodies.specs.Kinds.{IsGroup, IsGroupBeside, LeadsToGroup}
use Rattle.ecd_bodies.specs.Named.{all_rules, first_of, is_float, IsDefined, is_parameter}
use Rattle.ecd_bodies.specs.Reaching.{ReachesName}
use Rattle.ecd_bodies.proofs.Judging.{is_sound, is_complete, without_rule}
use Rattle.ecd_bodies.proofs.Marking.{marks_source}
use Rattle.ecd_names.specs.Edges.{edges_of}
use Rattle.ecd_names.proofs.Components.{are-nodes}
use Rattle.ecd_names.proofs.Graphs.{name-reached, node-reached, start-node}
use Rattle.ecd_schema_laws.proofs.Deciding.{Decided, decided_test, decided_false, decided_as, decided_both, decided_either}
use Rattle.ecd_schema_laws.proofs.Reaching.{decided_reaches}

pub decided_define : (a : Assign) → Decided (a ≡ Define)
decided_define Define = inl refl
decided_define TypeMore = inr (λ e. cc)
decided_define GroupMore = inr (λ e. cc)

decided_float : (name : List ℕ) → Decided (Contains float_names name)
decided_float name = decided_as (λ e. Contains-from_any (λ x y. (bytes_eq-Decides x y).0) name float_names e) (λ c. list_any-from_Contains nat_list_eq_equiv name float_names c) (decided_test (is_float name))

module _ (text : List Rule) where
  pub decided_defined : (name : List ℕ) → Decided (IsDefined text name)
  decided_defined name = decided_either (decided_test (is_some (first_of text name))) (decided_float name)

  -- ---- groups

  source : ℕ
  source = length (all_rules text)

  marks : List Bool
  marks = replicate source false ++ true ∷ []

  causes : List Edge
  causes = flat_map (edges_of_rule (first_of text) source) (all_rules text)

  decided_node : (name : List ℕ) (node : ℕ) → first_of text name ≡ Some node → Decided (IsGroup text name)
  unfolding source marks causes
  decided_node name node is =
      decided_as
      (λ r. is_sound text (all_rules text) refl (first_of text) (λ _. refl) source refl marks (λ v. (marks_source source v).0) node name is (record { from = source; is_marked = (marks_source source source).1 refl; reaches = r }))
      (λ g. let c = is_complete text (all_rules text) refl (first_of text) (λ _. refl) source refl marks ((marks_source source source).1 refl) node name is g in subst (λ (from : ℕ). Reaches causes from node) ((marks_source source c.from).0 c.is_marked) c.reaches)
      (decided_reaches causes source node)

  pub decided_group : (name : List ℕ) → Decided (IsGroup text name)
  unfolding source
  decided_group name = by (first_of text name) refl
    where
      by : (o : Option ℕ) → first_of text name ≡ o → Decided (IsGroup text name)
      by (Some node) e = decided_node name node e
      by None e = let w = without_rule text (all_rules text) refl (first_of text) (λ _. refl) source refl name e in decided_as w.0 w.1 (decided_test (is_group_socket name))

  pub decided_beside : (params : List Name) (name : List ℕ) → Decided (IsGroupBeside (IsGroup text) params name)
  decided_beside params name = decided_both (decided_false (is_parameter params name)) (decided_group name)

  pub decided_lead : (params : List Name) (lead : Lead) → Decided (LeadsToGroup (IsGroup text) params lead)
  decided_lead params leads.Group = inl tt
  decided_lead params leads.Type = inr (λ h. h)
  decided_lead params (leads.Named name) = decided_beside params name.text

  -- ---- names that reach each other

  pub decided_back : (a b : List ℕ) (node : ℕ) → first_of text b ≡ Some node → Decided (ReachesName text a b)
  decided_back a b node is = by (first_of text a) refl
    where
      by : (o : Option ℕ) → first_of text a ≡ o → Decided (ReachesName text a b)
      by None e = inr (λ r. let s = start-node text (edges_of text) (first_of text) (are-nodes text) a b node is r in let bad : None ≡ Some s.0 = sym e ∙ s.1 in cc)
      by (Some from) e =
          decided_as (name-reached text (edges_of text) (first_of text) (are-nodes text) from node a b e is) (node-reached text (edges_of text) (first_of text) (are-nodes text) from node a b e is)
          (decided_reaches (edges_of text) from node)
