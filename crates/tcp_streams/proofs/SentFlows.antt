-- The flows of a connection's members are those of its segments as they are sent one by one.
use Rattle.tcp_streams.proofs.Words.{◌≡◌, ℕ, List, [], ◌∷◌, Some, refl, sym, ◌∙◌, ap, Bool, filter, map}
use Rattle.tcp_streams.proofs.Words.{AreNumberedFrom, Client, Connection, Packet, Segment, Server, Side, is_sent_by}
use Rattle.tcp_streams.proofs.Words.{past_of, segments_of, side_segments}
use Rattle.std.proofs.Common.{find, option_map, subst}
use Rattle.packet_heads.specs.declared.packets.{Endpoint.Endpoint}
use Rattle.tcp_streams.specs.{Flow.IsFlowFrom, Members.initial_of}
use Rattle.tcp_streams.specs.Membership.{IsConnectionOf, belongings, is_answer, members}
use Rattle.tcp_streams.specs.code.{SentFlows.initial_sent, Side.Sent, Side.segments_among}
use Rattle.tcp_streams.specs.code.Taken.{is_by, sent_by}
use Rattle.tcp_streams.specs.laws.Flows.{FlowsAreThoseSent}
use Rattle.tcp_streams.proofs.{Belongings.belonging-are, FlowLemmas.members-named, Lists.by_Bool}
use Rattle.tcp_streams.proofs.Numbered.{Known-past_of}

-- segments that pass a test, of those that were sent
filter-among : (p : Segment → Bool) (sent : List Sent)
    → filter p (segments_among sent) ≡ segments_among (filter (λ (one : Sent). p one.0) sent)
filter-among p [] = refl
filter-among p (one ∷ sent) =
    by_Bool (p one.0)
    (λ e. rw e (ap (λ l. one.0 ∷ l) (filter-among p sent)))
    (λ e. rw e (filter-among p sent))

sent-by-side : (connection : Connection) (side : Side) (sent : List Sent)
    → filter (is_sent_by connection side) (segments_among sent) ≡ segments_among (sent_by connection.client side sent)
sent-by-side connection Client sent = filter-among (is_by connection.client Client) sent
sent-by-side connection Server sent = filter-among (is_by connection.client Server) sent

module _ (packets : List Packet) (connection : Connection) (opening : Segment) (sent : List Sent)
    (numbered : AreNumberedFrom 1 packets) (of : IsConnectionOf (belongings packets) opening connection)
    (are : segments_among sent ≡ members opening (belongings packets)) where
  -- the segments that the members name are those that were sent
  members-sent : segments_of packets connection.members.items ≡ segments_among sent
  members-sent =
      ap (segments_of packets) (of.members_are ∙ ap (map (λ (s : Segment). s.rec)) (belonging-are packets opening))
      ∙ members-named packets opening (past_of packets) (Known-past_of packets numbered)
      ∙ sym (belonging-are packets opening) ∙ sym are

  segments-sent : (side : Side)
      → side_segments packets connection side ≡ segments_among (sent_by opening.from side sent)
  segments-sent side =
      ap (filter (is_sent_by connection side)) members-sent ∙ sent-by-side connection side sent
      ∙ ap (λ (c : Endpoint). segments_among (sent_by c side sent)) of.client

  initial-of : (side : Side) → initial_of connection side ≡ initial_sent opening sent side
  initial-of Client = ap (λ (n : ℕ). Some n) of.client_isn
  initial-of Server =
      of.server_isn ∙ ap (λ l. option_map (λ (s : Segment). s.seq) (find (is_answer opening) l)) (sym are)

pub flow-sent : FlowsAreThoseSent
flow-sent capture packets connection opening sent side flow numbered of are =
    let same = segments-sent packets connection opening sent numbered of are side in
    let number = initial-of packets connection opening sent numbered of are side in (
      λ is. subst (λ l. IsFlowFrom (initial_sent opening sent side) capture l flow) same
          (subst (λ n. IsFlowFrom n capture (side_segments packets connection side) flow) number is),
      λ is. subst (λ n. IsFlowFrom n capture (side_segments packets connection side) flow) (sym number)
          (subst (λ l. IsFlowFrom (initial_sent opening sent side) capture l flow) (sym same) is),
    )
