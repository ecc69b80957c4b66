-- A note that was written is read again.
use Rattle.std.proofs.Common.{◌≡◌, ℕ, false, true, List, [], refl, subst, sym, inl, codes}
use Rattle.std.proofs.Math.Logic.{∥∥₁_map}
use Rattle.texts.specs.PackageNames.{is_package_name}
use Rattle.host_core.specs.Nodes.{own_access}
use Rattle.host_core.specs.declared.node.Node.{Node}
use Rattle.host_core.specs.declared.node.Node.TheVariants.{File}
use Rattle.control_fields.specs.Spelling.{IsParagraph, spell}
use Rattle.control_fields.proofs.Again.{again}
use Rattle.status_records.specs.declared.record.Record.{Record}
use Rattle.status_records.specs.declared.words.Want.TheVariants.{Unknown}
use Rattle.status_records.specs.declared.words.Flag.TheVariants.{Ok}
use Rattle.status_records.specs.declared.words.StateWord.TheVariants.{NotInstalled}
use Rattle.status_records.specs.Words.{is_not_installed}
use Rattle.status_records.specs.Paragraphs.{line_field, paragraph_of, HasParts, IsEntry}
use Rattle.status_db.specs.Notes.{IsNote, gone_fields, said_gone, said_of}
use Rattle.status_db.specs.Noting.{IsNoteFile}
use Rattle.status_records.proofs.Lines.{name_visible, package_is_field, status_is_field}
use Rattle.status_records.proofs.Rounds.{entry_again, paragraph_written, whole_of}

note_again : (text : List ℕ) (r : Record) → HasParts r → text ≡ spell (paragraph_of r) → is_not_installed r.state ≡ false → ∥ IsNote text (said_of r) ∥₁
note_again text r parts is there = ∥∥₁_map (whole_of r) (λ whole. subst (λ (t : List ℕ). IsNote t (said_of r)) (sym is) record {
  fields = paragraph_of r;
  reads = again (paragraph_of r) (paragraph_written r whole parts);
  entry = entry_again [] r whole parts there refl;
})

pub note_written : (node : Node) (text : List ℕ) (r : Record) → HasParts r → text ≡ spell (paragraph_of r) → is_not_installed r.state ≡ false → node ≡ File text (own_access 0o644) → IsNoteFile node (said_of r)
note_written node text r parts is there file = (text, file, note_again text r parts is there)

-- that a package is gone

gone_paragraph : (name : List ℕ) → is_package_name name ≡ true → IsParagraph (gone_fields name)
gone_paragraph name named = record {
  some = λ e. cc e;
  are = (package_is_field name (name_visible name named), refl, (status_is_field Unknown Ok NotInstalled, refl, tt));
}

gone_entry : (name : List ℕ) → is_package_name name ≡ true → IsEntry [] (gone_fields name) name []
gone_entry name named = record {
  says = record {
    named = (record { field = line_field (codes "Package") name; there = refl; value_is = refl; one_line = refl }, named);
    stands_for = inl ((Unknown, Ok, record { field = line_field (codes "Status") (codes "unknown ok not-installed"); there = refl; value_is = refl; one_line = refl }), refl);
  };
  new = refl;
  readable = ((refl, named), ((refl, (Unknown, Ok, NotInstalled, refl)), tt));
}

pub gone_written : (node : Node) (text name : List ℕ) → is_package_name name ≡ true → text ≡ spell (gone_fields name) → node ≡ File text (own_access 0o644) → IsNoteFile node (said_gone name)
gone_written node text name named is file = (
  text,
  file,
  ∣ subst (λ (t : List ℕ). IsNote t (said_gone name)) (sym is) record { fields = gone_fields name; reads = again (gone_fields name) (gone_paragraph name named); entry = gone_entry name named } ∣₁,
)
